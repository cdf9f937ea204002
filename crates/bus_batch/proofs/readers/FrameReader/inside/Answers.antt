use Rattle.std.proofs.Common.{inl, inr, refl}
use Rattle.std.proofs.lemmas.Bool.{false≢true}
use Rattle.bus_batch.proofs.Feeding.{torn_in_body, torn_in_data, whole_outside}
use Rattle.bus_batch.proofs.readers.FrameReader.inside.Goals as goal

pub returns-in-Body-clause-torn : goal.returns-in-Body-clause-torn
returns-in-Body-clause-torn c most words pieces had _ = elim c.in-Body.is [
  | inl b ↦ torn_in_body most c.args.self.now.senders words pieces c.self.inside.most
      c.self.inside.senders
      c.self.inside.least c.self.inside.left c.self.inside.place c.self.inside.bytes c.args.self.now
      c.self.view_is had b.0 b.1 b.2 b.3 c.self.invariant.0
  | inr d ↦ torn_in_data most c.args.self.now.senders words pieces c.self.inside.most
      c.self.inside.senders
      c.self.inside.least c.self.inside.left c.self.inside.place c.self.inside.bytes c.args.self.now
      c.self.view_is had d.0 d.1 d.2 d.3 d.4 d.5
]

pub returns-in_default : goal.returns-in_default
returns-in_default c = record {
  torn = λ most words pieces had t. absurd (false≢true t);
  whole = λ most words pieces had _. whole_outside most c.args.self.now.senders words pieces
      c.self.inside.most c.self.inside.senders c.self.inside.least c.self.inside.left
      c.self.inside.place
      c.self.inside.bytes c.args.self.now c.self.view_is had c.in_default.not-Body
      c.in_default.not-Data;
  met = λ _. refl;
}
