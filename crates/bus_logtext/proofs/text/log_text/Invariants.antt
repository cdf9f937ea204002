use Rattle.std.proofs.Common.{take, string_bytes}
use Rattle.bus_logtext.proofs.TextLemmas.{Tells}
use Rattle.bus_logtext.proofs.text.log_text.Given as goal

abbrev pub invariant-loop-place : goal.invariant-loop-place
invariant-loop-place l =
    Tells l.most l.senders (take l.place l.words) l.reader (string_bytes l.text)
