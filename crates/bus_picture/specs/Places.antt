-- Where things stand in a picture.
use Rattle.std.specs.Prelude.{ℕ, ◌+◌, ◌*◌, List, [], ◌∷◌, nat_le, if◌then◌else◌}
use Rattle.bus_picture.specs.declared.columns.Columns.{Columns}
use Rattle.bus_picture.specs.declared.processes.Process.{Process}
use Rattle.bus_picture.specs.declared.processes.Process.TheVariants.{Sender, Receiver}
use Rattle.bus_picture.specs.Rows.{Shown}

abbrev pub no_columns : Columns
no_columns = record { senders = 0; receivers = 0 }

-- so many columns that this process has one
abbrev pub wider : Columns → Process → Columns
wider c (Sender n) =
    if nat_le c.senders n then record { senders = n + 1; receivers = c.receivers } else c
wider c (Receiver n) =
    if nat_le c.receivers n then record { senders = c.senders; receivers = n + 1 } else c

abbrev pub columns_from : Columns → List Shown → Columns
columns_from c [] = c
columns_from c (s ∷ rows) = columns_from (wider c s.process) rows

-- from the left: the senders' columns, and then the receivers'
abbrev pub across : Columns → Process → ℕ
across c (Sender n) = 60 + 140 * n
across c (Receiver n) = 60 + 140 * (c.senders + n)

-- from the top: time goes downwards
abbrev pub down : ℕ → ℕ
down place = 150 + 18 * place

-- from the left: where the columns end
abbrev pub edge : Columns → ℕ
edge c = 60 + 140 * (c.senders + c.receivers)
