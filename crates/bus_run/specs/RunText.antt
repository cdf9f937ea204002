-- What `run` prints of a run.
use Rattle.std.specs.Prelude.{◌≡◌, ℕ, zero, suc, Bool, true, false, List, [], ◌∷◌, ◌++◌, codes}
use Rattle.std.specs.Prelude.{decimal, flat_map, length}
use Rattle.std.specs.List.{enumerate_from}
use Rattle.bus_register.specs.declared.registers.SenderNo.{SenderNo}
use Rattle.bus_batch.specs.Frames.{Order, Spells}
use Rattle.bus_deliverylog.specs.Orders.{of_sender}
use Rattle.bus_tenure.specs.declared.pages.Page.{Page}
use Rattle.bus_pageslot.specs.Outcomes.{Outcome}
use Rattle.bus_receiver.specs.Hearing.{Hearing}
use Rattle.bus_run.specs.Audit.{shape_of_run}
use Rattle.bus_run.specs.Reports.{IsRunReport}

abbrev pub sender_line : ℕ → ℕ → List ℕ
sender_line s items = codes "sender " ++ decimal s ++ codes ": " ++ decimal items ++ 10 ∷ []

-- a line for each of so many senders, with how many items of the order are its own
abbrev pub sender_lines : Order → ℕ → List ℕ
sender_lines order zero = []
sender_lines order (suc s) = sender_lines order s ++ sender_line s (length (of_sender s order))

-- whether the end was given
abbrev pub end_text : Bool → List ℕ
end_text true = codes " end"
end_text false = []

abbrev pub receiver_line : ℕ → Hearing → List ℕ
receiver_line r h =
    codes "receiver " ++ decimal r ++ codes ": " ++ decimal h.items ++ end_text h.ended ++ 10 ∷ []

-- a line for each receiver, of which the first has this number
abbrev pub receiver_lines : ℕ → List Hearing → List ℕ
receiver_lines first heards = flat_map (λ g. receiver_line g.0 g.1) (enumerate_from first heards)

-- what the page knows, under an audit that was passed
abbrev pub page_lines : Page → List ℕ
page_lines page =
    codes "tenures " ++ decimal page.tenures ++ 10 ∷ codes "words " ++ decimal page.words
    ++ 10 ∷ codes "audit ok" ++ 10 ∷ []

abbrev pub report_text : Order → Page → ℕ → List Hearing → List ℕ
report_text order page senders heards =
    sender_lines order senders ++ receiver_lines 0 heards ++ page_lines page

-- What is printed of a run that ended well: of each sender how many items the order has, of each
-- receiver the total that it noted and whether it was given the end, and the tenures and words that
-- the page knows.
pub record IsRunText (senders receivers messages : ℕ) (text : List ℕ) : Type 0 where
  pub left : Outcome
  pub heards : List Hearing
  pub report : IsRunReport (shape_of_run senders receivers) messages left heards
  pub order : Order
  pub owners : List (ℕ × SenderNo)
  pub spells : Spells left.senders left.log order owners
  pub text_is : text ≡ report_text order left.page senders heards
