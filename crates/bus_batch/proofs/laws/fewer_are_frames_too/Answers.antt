use Rattle.std.proofs.Common.{◌∷◌, [], refl}
use Rattle.bus_batch.specs.Frames.{log_words, order_of, tenure_and_owner}
use Rattle.bus_batch.proofs.LimitLaws.{frames_of_more, two, two_lawful, two_not_single}
use Rattle.bus_batch.proofs.LimitLaws.{frames_of_fewer, no_singles}
use Rattle.bus_batch.proofs.laws.fewer_are_frames_too.Goals as goal

pub returns-clause-frames : goal.returns-clause-frames
returns-clause-frames c few more senders frames within lawful =
    frames_of_more few more senders 0 frames within lawful

pub returns-clause-spells : goal.returns-clause-spells
returns-clause-spells c few more senders words order owners within s = record {
  frames = s.frames;
  lawful = frames_of_more few more senders 0 s.frames within s.lawful;
  words_are = s.words_are;
  order_is = s.order_is;
  owners_are = s.owners_are;
}

pub returns-clause-log : goal.returns-clause-log
returns-clause-log c few more senders words within log = record {
  frames = log.frames;
  lawful = frames_of_more few more senders 0 log.frames within log.lawful;
  words_are = log.words_are;
}

pub returns-clause-exact : goal.returns-clause-exact
returns-clause-exact c most few senders frames lawful low =
    frames_of_fewer most few senders 0 frames lawful low

pub returns-clause-exact_spell : goal.returns-clause-exact_spell
returns-clause-exact_spell c most few senders words order owners s low = record {
  frames = s.frames;
  lawful = frames_of_fewer most few senders 0 s.frames s.lawful low;
  words_are = s.words_are;
  order_is = s.order_is;
  owners_are = s.owners_are;
}

pub returns-clause-more_frames : goal.returns-clause-more_frames
returns-clause-more_frames c = (two ∷ [], two_lawful, two_not_single)

pub returns-clause-more_spell : goal.returns-clause-more_spell
returns-clause-more_spell c = (
  log_words (two ∷ []),
  order_of (two ∷ []),
  tenure_and_owner two ∷ [],
  record {
    frames = two ∷ [];
    lawful = two_lawful;
    words_are = refl;
    order_is = refl;
    owners_are = refl;
  },
  (λ s. no_singles s.frames s.lawful s.words_are),
)

pub returns-clause-more_log : goal.returns-clause-more_log
returns-clause-more_log c = (
  log_words (two ∷ []),
  record { frames = two ∷ []; lawful = two_lawful; words_are = refl },
  (λ log. no_singles log.frames log.lawful log.words_are),
)
