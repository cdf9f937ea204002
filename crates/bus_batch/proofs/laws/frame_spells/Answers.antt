use Rattle.std.specs.Prelude.{◌≢◌}
use Rattle.std.proofs.lemmas.List.Elements.{All-nil}
use Rattle.std.proofs.Common.{[], ◌∷◌, arith, refl, append-nil}
use Rattle.bus_batch.specs.Frames.{frame_words}
use Rattle.bus_batch.proofs.laws.frame_spells.Goals as goal

pub returns : goal.returns
returns c senders f lawful = record {
  frames = f ∷ [];
  lawful = (lawful, omega arith, (λ _. refl), tt, (λ _. All-nil (λ g. g.owner ≢ f.owner)));
  words_are = append-nil (frame_words f);
  order_is = refl;
  owners_are = refl;
}
