-- What a bus is made by, and the page that it went on after.
use Rattle.std.specs.Prelude.{ℕ, zero, suc, Bool, true, false, Option, Some, None}
use Rattle.bus_register.specs.declared.limits.TheConstants.{LOG_MESSAGES, MOST_MESSAGES}
use Rattle.bus_tenure.specs.declared.pages.Page.{Page}
use Rattle.bus_world.specs.declared.shapes.Shape.{Shape}
use Rattle.bus_machine.specs.Playing.{bases_after}
use Rattle.bus_automaton.specs.declared.plans.Plan.{Plan}
use Rattle.bus_embed.specs.declared.buses.Sizes.{Sizes}
use Rattle.bus_embed.specs.declared.buses.Left.{Left}

-- how many messages a batch may have: so many, and for 0 the most, of a ring and else
abbrev pub batch_in : (ring : Bool) → ℕ → ℕ
batch_in true zero = MOST_MESSAGES
batch_in false zero = LOG_MESSAGES
batch_in ring (suc more) = suc more

-- what a bus of these sizes is made by, with so many senders and receivers
abbrev pub shape_of : Sizes → ℕ → ℕ → Shape
shape_of sizes senders receivers = record {
  senders = senders;
  receivers = receivers;
  rounds = sizes.rounds;
  rows = sizes.rows;
  log_words = sizes.log_words;
  batch = batch_in sizes.ring sizes.batch;
}

-- rows are used again: of a ring always, and else where that is asked for
abbrev pub rows_again : (ring again : Bool) → ℕ → Option ℕ
rows_again true again rows = Some rows
rows_again false true rows = Some rows
rows_again false false rows = None

-- the page of a bus that left this
abbrev pub page_of : Left → Page
page_of left = record {
  next = left.next;
  left = left.gone;
  ended = left.ended;
  tenures = left.tenures;
  words = left.words;
  floor = 0;
}

abbrev pub pages : Option Left → Option Page
pages None = None
pages (Some left) = Some (page_of left)

-- of a bus after one that left this, if after any: it goes on with the next numbers
abbrev pub plan_of : Sizes → ℕ → ℕ → Option Left → Plan
plan_of sizes senders receivers before = record {
  shape = shape_of sizes senders receivers;
  reuse = rows_again sizes.ring sizes.again sizes.rows;
  bases = bases_after (pages before);
  ring = sizes.ring;
}
