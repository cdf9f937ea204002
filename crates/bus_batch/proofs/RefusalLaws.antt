-- What no log has, and that each refusal has one fault alone.
use Rattle.std.proofs.Common.{◌≡◌, ◌≢◌, ℕ, ◌+◌, ◌-◌, ◌%◌, ◌^◌, ◌<◌, ◌≤◌, List, [], ◌∷◌, ◌++◌}
use Rattle.std.proofs.Common.{length, drop, get_or, true, false, refl, sym, ap, ◌∙◌, subst, arith}
use Rattle.std.proofs.Common.{inl, inr}
use Rattle.std.specs.Prelude.{All}
use Rattle.std.specs.Int.{w64, to_be_bytes}
use Rattle.std.specs.List.{flat_map}
use Rattle.std.proofs.lemmas.List.{length-append, length-drop, get_or-drop}
use Rattle.std.proofs.lemmas.List.Elements.{All-head, All-tail}
use Rattle.bus_batch.specs.declared.batches.Phase.TheVariants.{Open, Marking, Closed}
use Rattle.bus_batch.specs.declared.messages.Mark.{Mark}
use Rattle.bus_batch.specs.declared.messages.Mark.TheVariants as mark
use Rattle.bus_register.specs.declared.limits.TheConstants.{MOST_BODY_WORDS}
use Rattle.bus_register.specs.declared.registers.SenderNo.{SenderNo}
use Rattle.bus_batch.specs.declared.batches.PutFault.{PutFault}
use Rattle.bus_batch.specs.declared.batches.PutFault.TheVariants as put
use Rattle.bus_batch.specs.declared.batches.CloseFault.{CloseFault}
use Rattle.bus_batch.specs.declared.batches.CloseFault.TheVariants as close
use Rattle.bus_batch.specs.Batches.{Pending, IsShut, CanPut, IsPutFault, CanClose, IsCloseFault}
use Rattle.bus_batch.specs.Messages.{IsNumbered}
use Rattle.bus_batch.specs.Frames.{Frame, Body, Messages, Marked, AreFrames, AreFramesFrom}
use Rattle.bus_batch.specs.Frames.{IsFrame, IsBody, IsLog, IsBadWord, head_word, message_word}
use Rattle.bus_batch.specs.Frames.{mark_word, data_word, data_len, words_of_bytes, message_words}
use Rattle.bus_batch.specs.Frames.{body_words, log_words}
use Rattle.bus_batch.proofs.Bytes.{data_bytes, rest_zero, spread_len}
use Rattle.bus_batch.proofs.Heads.{body_most}
use Rattle.bus_batch.proofs.WordLaws.{head_parts, message_parts, not_mark, other_marks}
use Rattle.bus_batch.proofs.WordLaws.{length-message_words, words_most}

abbrev sender_as : ℕ → SenderNo
sender_as n = record { 0 = n }

-- ---- frames
-- the frames behind others
behind : (senders least : ℕ) (before frames : List Frame)
    → AreFramesFrom senders least (before ++ frames)
    → (from : ℕ) × AreFramesFrom senders from frames
behind senders least [] frames lawful = (least, lawful)
behind senders least (f ∷ before) frames lawful =
    behind senders (f.tenure + 1) before frames lawful.3

in_the_middle : (P : Frame → Type 0) (before : List Frame) (g : Frame) (rest : List Frame)
    → All P (before ++ g ∷ rest) → P g
in_the_middle P [] g rest each = All-head P g rest each
in_the_middle P (f ∷ before) g rest each =
    in_the_middle P before g rest (All-tail P f (before ++ g ∷ rest) each)

pub none_after_leaving : (senders : ℕ) (before : List Frame) (f : Frame) (between : List Frame)
    (g : Frame) (rest : List Frame)
    → f.body ≡ Marked mark.Leave → g.owner ≡ f.owner
    → AreFrames senders (before ++ f ∷ (between ++ g ∷ rest)) → ⊥
none_after_leaving senders before f between g rest leave same lawful =
    let from_it = behind senders 0 before (f ∷ (between ++ g ∷ rest)) lawful in
    in_the_middle (λ z. z.owner ≢ f.owner) between g rest (from_it.1.4 leave) same

pub none_after_end : (senders : ℕ) (before : List Frame) (f g : Frame) (rest : List Frame)
    → f.body ≡ Marked mark.End
    → AreFrames senders (before ++ f ∷ g ∷ rest) → ⊥
none_after_end senders before f g rest end lawful =
    let from_it = behind senders 0 before (f ∷ g ∷ rest) lawful in
    let nothing : g ∷ rest ≡ [] = from_it.1.2 end in absurd cc

pub none_of_same_tenure : (senders : ℕ) (before : List Frame) (f g : Frame) (rest : List Frame)
    → g.tenure ≤ f.tenure
    → AreFrames senders (before ++ f ∷ g ∷ rest) → ⊥
none_of_same_tenure senders before f g rest same lawful =
    let from_it = behind senders 0 before (f ∷ g ∷ rest) lawful in
    let rises : f.tenure + 1 ≤ g.tenure = from_it.1.3.1 in absurd (omega arith)

pub none_of_stranger : (senders : ℕ) (before : List Frame) (f : Frame) (rest : List Frame)
    → senders ≤ f.owner.0
    → AreFrames senders (before ++ f ∷ rest) → ⊥
none_of_stranger senders before f rest stranger lawful =
    let from_it = behind senders 0 before (f ∷ rest) lawful in
    let known : f.owner.0 < senders = from_it.1.0.owner in absurd (omega arith)

pub none_of_nothing : (senders : ℕ) (before : List Frame) (f : Frame) (rest : List Frame)
    → f.body ≡ Messages []
    → AreFrames senders (before ++ f ∷ rest) → ⊥
none_of_nothing senders before f rest nothing lawful =
    let from_it = behind senders 0 before (f ∷ rest) lawful in
    let some : IsBody (Messages []) = subst IsBody nothing from_it.1.0.body in
    let z : 0 < 0 = some.0 in absurd (omega arith)

-- ---- words
-- the first frame of words that are a log
first_frame : (senders least head : ℕ) (words : List ℕ) (frames : List Frame)
    → AreFramesFrom senders least frames → log_words frames ≡ head ∷ words
    → (f : Frame) × (more : List ℕ) × IsFrame senders f
    × (head_word f.owner.0 (length (body_words f.body)) f.tenure ≡ head)
    × (body_words f.body ++ more ≡ words)
first_frame senders least head words [] lawful e = absurd cc
first_frame senders least head words (f ∷ frames) lawful e = (f, log_words frames, lawful.0, cc, cc)

pub none_so_long : (senders owner count tenure : ℕ) (rest : List ℕ) → owner < 2 ^ 8 → count < 2 ^ 14
    → tenure < 2 ^ 40 → MOST_BODY_WORDS < count
    → IsLog senders (head_word owner count tenure ∷ rest) → ⊥
none_so_long senders owner count tenure rest a b d long log =
    let f =
    first_frame senders 0 (head_word owner count tenure) rest log.frames log.lawful log.words_are in
    let most = body_most f.0.body f.2.body in
    let parts = head_parts f.0.owner.0 (length (body_words f.0.body)) f.0.tenure owner count tenure
    f.2.owner_bits (omega arith) f.2.tenure a b d f.3 in
    let same = parts.1 in
    absurd (omega arith)

-- a body that begins with an empty message has one word for it, and at most eight for each of the
-- others
few_words : (b : Body) (more rest : List ℕ) (number : ℕ) → IsBody b → number < 2 ^ 48
    → body_words b ++ more ≡ message_word 0 number ∷ rest → length (body_words b) ≤ 505
few_words (Messages []) more rest number lawful n e = let some = lawful.0 in absurd (omega arith)
few_words (Messages (m ∷ ms)) more rest number lawful n e =
    let here = All-head IsNumbered m ms lawful.2 in
    let first : message_word (length m.message) m.number ≡ message_word 0 number = cc in
    let parts = message_parts (length m.message) m.number 0 number here.0 n first in
    let none = parts.0 in
    let few = lawful.1 in
    let later = words_most ms (All-tail IsNumbered m ms lawful.2) in
    let size = length-message_words m in
    let sum : length (flat_map message_words (m ∷ ms))
    ≡ length (message_words m) + length (flat_map message_words ms) =
    length-append (message_words m) (flat_map message_words ms) in
    omega arith
few_words (Marked m) more rest number lawful n e =
    let first : mark_word m ≡ message_word 0 number = cc in
    absurd (not_mark m 0 number (omega arith) n (sym first))

pub none_unfillable : (senders owner count tenure number : ℕ) (rest : List ℕ) → owner < 2 ^ 8
    → count < 2 ^ 14 → tenure < 2 ^ 40 → number < 2 ^ 48 → 505 < count
    → IsLog senders (head_word owner count tenure ∷ message_word 0 number ∷ rest) → ⊥
none_unfillable senders owner count tenure number rest a b d n long log =
    let f = first_frame senders 0 (head_word owner count tenure) (message_word 0 number ∷ rest)
    log.frames log.lawful log.words_are in
    let most = body_most f.0.body f.2.body in
    let parts = head_parts f.0.owner.0 (length (body_words f.0.body)) f.0.tenure owner count tenure
    f.2.owner_bits (omega arith) f.2.tenure a b d f.3 in
    let same = parts.1 in
    let few = few_words f.0.body f.1 rest number f.2.body n f.4 in
    absurd (omega arith)

-- a body that begins with a leave word is a leave mark
is_leave : (b : Body) (more rest : List ℕ) → IsBody b
    → body_words b ++ more ≡ mark_word mark.Leave ∷ rest
    → (b ≡ Marked mark.Leave) × (more ≡ rest)
is_leave (Messages []) more rest lawful e = let some = lawful.0 in absurd (omega arith)
is_leave (Messages (m ∷ ms)) more rest lawful e =
    let here = All-head IsNumbered m ms lawful.2 in
    let first : message_word (length m.message) m.number ≡ mark_word mark.Leave = cc in
    absurd (not_mark mark.Leave (length m.message) m.number here.1.0 here.0 first)
is_leave (Marked mark.End) more rest lawful e =
    let first : mark_word mark.End ≡ mark_word mark.Leave = cc in
    absurd (other_marks (mark_word mark.End) refl first)
is_leave (Marked mark.Leave) more rest lawful e = (refl, (let z = e in cc))

-- no frame of one who left begins with this word
no_second :
    (senders least owner count later : ℕ) (o : SenderNo) (rest : List ℕ) (frames : List Frame)
    → o.0 ≡ owner → owner < 2 ^ 8
    → count < 2 ^ 14 → later < 2 ^ 40
    → AreFramesFrom senders least frames → All (λ g. g.owner ≢ o) frames
    → log_words frames ≡ head_word owner count later ∷ rest → ⊥
no_second senders least owner count later o rest [] same a b d lawful others e = absurd cc
no_second senders least owner count later o rest (g ∷ frames) same a b d lawful others e =
    let most = body_most g.body lawful.0.body in
    let first : head_word g.owner.0 (length (body_words g.body)) g.tenure
    ≡ head_word owner count later = cc in
    let parts = head_parts g.owner.0 (length (body_words g.body)) g.tenure owner count later
    lawful.0.owner_bits (omega arith) lawful.0.tenure a b d first in
    All-head (λ z. z.owner ≢ o) g frames others (ap sender_as (parts.0 ∙ sym same))

leaves_then : (senders owner tenure count later : ℕ) (rest : List ℕ) (frames : List Frame)
    → owner < 2 ^ 8 → tenure < 2 ^ 40
    → count < 2 ^ 14 → later < 2 ^ 40
    → AreFrames senders frames
    → log_words frames
    ≡ head_word owner 1 tenure ∷ mark_word mark.Leave ∷ head_word owner count later ∷ rest → ⊥
leaves_then senders owner tenure count later rest [] a b d l lawful e = absurd cc
leaves_then senders owner tenure count later rest (f ∷ frames) a b d l lawful e =
    let most = body_most f.body lawful.0.body in
    let first : head_word f.owner.0 (length (body_words f.body)) f.tenure
    ≡ head_word owner 1 tenure = cc in
    let parts = head_parts f.owner.0 (length (body_words f.body)) f.tenure owner 1 tenure
    lawful.0.owner_bits (omega arith) lawful.0.tenure a (omega arith) b first in
    let left =
    is_leave f.body (log_words frames) (head_word owner count later ∷ rest) lawful.0.body (cc) in
    no_second senders (f.tenure + 1) owner count later f.owner rest frames parts.0 a d l lawful.3
    (lawful.4 left.0) left.1

pub none_with_head_after_leaving : (senders owner tenure count later : ℕ) → owner < 2 ^ 8
    → tenure < 2 ^ 40 → count < 2 ^ 14
    → later < 2 ^ 40
    → IsBadWord senders (head_word owner 1 tenure ∷ mark_word mark.Leave ∷ [])
    (head_word owner count later)
none_with_head_after_leaving senders owner tenure count later a b d l log =
    leaves_then senders owner tenure count later log.0 log.1.frames a b d l log.1.lawful
    log.1.words_are

-- a body begins with a message word, or with one of the two marks
no_other : (b : Body) (more rest : List ℕ) (word : ℕ) → IsBody b → mark_word mark.Leave < word
    → body_words b ++ more ≡ word ∷ rest → ⊥
no_other (Messages []) more rest word lawful above e = let some = lawful.0 in absurd (omega arith)
no_other (Messages (m ∷ ms)) more rest word lawful above e =
    let here = All-head IsNumbered m ms lawful.2 in
    let short = here.1.0 in let number = here.0 in
    let first : message_word (length m.message) m.number ≡ word = cc in
    absurd (omega arith)
no_other (Marked mark.End) more rest word lawful above e =
    let first : mark_word mark.End ≡ word = cc in absurd (omega arith)
no_other (Marked mark.Leave) more rest word lawful above e =
    let first : mark_word mark.Leave ≡ word = cc in absurd (omega arith)

pub none_with_another_mark : (senders owner count tenure word : ℕ) → mark_word mark.Leave < word
    → IsBadWord senders (head_word owner count tenure ∷ []) word
none_with_another_mark senders owner count tenure word above log =
    let f = first_frame senders 0 (head_word owner count tenure) (word ∷ log.0) log.1.frames
    log.1.lawful log.1.words_are in
    no_other f.0.body f.1 log.0 word f.2.body above f.4

-- a body that begins with a mark has no other word
alone : (b : Body) (more rest : List ℕ) (m : Mark) → IsBody b
    → body_words b ++ more ≡ mark_word m ∷ rest → length (body_words b) ≡ 1
alone (Messages []) more rest m lawful e = let some = lawful.0 in absurd (omega arith)
alone (Messages (k ∷ ms)) more rest m lawful e =
    let here = All-head IsNumbered k ms lawful.2 in
    let first : message_word (length k.message) k.number ≡ mark_word m = cc in
    absurd (not_mark m (length k.message) k.number here.1.0 here.0 first)
alone (Marked k) more rest m lawful e = refl

pub none_with_more_than_a_mark : (senders owner count tenure : ℕ) (m : Mark) → owner < 2 ^ 8
    → count < 2 ^ 14 → tenure < 2 ^ 40 → count ≢ 1
    → IsBadWord senders (head_word owner count tenure ∷ []) (mark_word m)
none_with_more_than_a_mark senders owner count tenure m a b d more log =
    let f = first_frame senders 0 (head_word owner count tenure) (mark_word m ∷ log.0) log.1.frames
    log.1.lawful log.1.words_are in
    let most = body_most f.0.body f.2.body in
    let parts = head_parts f.0.owner.0 (length (body_words f.0.body)) f.0.tenure owner count tenure
    f.2.owner_bits (omega arith) f.2.tenure a b d f.3 in
    more (sym parts.1 ∙ alone f.0.body f.1 log.0 m f.2.body f.4)

-- the last byte of the one data word of a message that does not fill it
last_byte : (b : Body) (more rest : List ℕ) (len number word : ℕ) → IsBody b → 0 < len → len < 8
    → number < 2 ^ 48 → body_words b ++ more ≡ message_word len number ∷ word ∷ rest
    → word % 256 ≡ 0
last_byte (Messages []) more rest len number word lawful some short n e =
    let none = lawful.0 in absurd (omega arith)
last_byte (Messages (m ∷ ms)) more rest len number word lawful some short n e =
    let here = All-head IsNumbered m ms lawful.2 in
    let first : message_word (length m.message) m.number ≡ message_word len number = cc in
    let size : length m.message ≡ len =
    (message_parts (length m.message) m.number len number here.0 n first).0 in
    let one : 1 ≡ data_len (length m.message) = omega arith in
    let behind :
    (words_of_bytes (data_len (length m.message)) m.message ++ flat_map message_words ms) ++ more
    ≡ word ∷ rest = cc in
    let shown : data_word m.message ∷ (flat_map message_words ms ++ more) ≡ word ∷ rest =
    ap (λ k. (words_of_bytes k m.message ++ flat_map message_words ms) ++ more) one ∙ behind in
    let is : word ≡ data_word m.message = cc in
    let spread = data_bytes m.message word here.1.1 is in
    let zero = subst (λ z. All (λ b. b ≡ 0) (drop len z)) (sym spread)
    (rest_zero m.message len (omega arith)) in
    let below : 7 - len < length (drop len (to_be_bytes w64 word)) =
    let a = length-drop len (to_be_bytes w64 word) in let b = spread_len word in omega arith in
    let place : 7 ≡ len + (7 - len) = omega arith in
    ap (λ k. get_or (to_be_bytes w64 word) k 0) place
    ∙ sym (get_or-drop len (to_be_bytes w64 word) (7 - len) 0) ∙ zero (7 - len) 0 below
last_byte (Marked m) more rest len number word lawful some short n e =
    let first : mark_word m ≡ message_word len number = cc in
    absurd (not_mark m len number (omega arith) n (sym first))

pub none_padded : (senders owner count tenure len number word : ℕ) (rest : List ℕ) → 0 < len
    → len < 8 → number < 2 ^ 48 → word % 256 ≢ 0
    → IsLog senders (head_word owner count tenure ∷ message_word len number ∷ word ∷ rest) → ⊥
none_padded senders owner count tenure len number word rest some short n other log =
    let f = first_frame senders 0 (head_word owner count tenure)
    (message_word len number ∷ word ∷ rest) log.frames log.lawful log.words_are in
    other (last_byte f.0.body f.1 rest len number word f.2.body some short n f.4)

-- ---- faults
shut_or_open : (b : Pending) → IsShut b → b.phase ≡ Open → ⊥
shut_or_open b (inl e) is = let z : Marking e.0 ≡ Open = sym e.1 ∙ is in absurd cc
shut_or_open b (inr e) is = let z : Closed ≡ Open = sym e ∙ is in absurd cc

busy_or_idle : (b : Pending) → b.busy ≡ true → b.busy ≡ false → ⊥
busy_or_idle b e is = let z : true ≡ false = sym e ∙ is in absurd cc

pub put_taken : (b : Pending) (len : ℕ) (fault : PutFault) → CanPut b len → IsPutFault b len fault
    → ⊥
put_taken b len put.Closed can why = shut_or_open b why can.is_open
put_taken b len put.Busy can why = busy_or_idle b why.1 can.idle
put_taken b len put.TooLong can why = let z = why.2 in let y = can.short in absurd (omega arith)
put_taken b len put.BatchFull can why = let z = why.3 in let y = can.room in absurd (omega arith)

pub put_refused : (b : Pending) (len : ℕ) (fault other : PutFault) → IsPutFault b len fault
    → IsPutFault b len other → fault ≡ other
put_refused b len put.Closed put.Closed why also = refl
put_refused b len put.Closed put.Busy why also = absurd (shut_or_open b why also.0)
put_refused b len put.Closed put.TooLong why also = absurd (shut_or_open b why also.0)
put_refused b len put.Closed put.BatchFull why also = absurd (shut_or_open b why also.0)
put_refused b len put.Busy put.Closed why also = absurd (shut_or_open b also why.0)
put_refused b len put.Busy put.Busy why also = refl
put_refused b len put.Busy put.TooLong why also = absurd (busy_or_idle b why.1 also.1)
put_refused b len put.Busy put.BatchFull why also = absurd (busy_or_idle b why.1 also.1)
put_refused b len put.TooLong put.Closed why also = absurd (shut_or_open b also why.0)
put_refused b len put.TooLong put.Busy why also = absurd (busy_or_idle b also.1 why.1)
put_refused b len put.TooLong put.TooLong why also = refl
put_refused b len put.TooLong put.BatchFull why also =
    let z = why.2 in let y = also.2 in absurd (omega arith)
put_refused b len put.BatchFull put.Closed why also = absurd (shut_or_open b also why.0)
put_refused b len put.BatchFull put.Busy why also = absurd (busy_or_idle b also.1 why.1)
put_refused b len put.BatchFull put.TooLong why also =
    let z = also.2 in let y = why.2 in absurd (omega arith)
put_refused b len put.BatchFull put.BatchFull why also = refl

pub close_taken : (b : Pending) (fault : CloseFault) → CanClose b → IsCloseFault b fault → ⊥
close_taken b close.Closed can why = shut_or_open b why can.is_open
close_taken b close.Busy can why = busy_or_idle b why.1 can.idle
close_taken b close.Pending can why =
    let some : 0 < length {A = List ℕ} [] =
    subst (λ (z : List (List ℕ)). 0 < length z) can.none why.2 in
    absurd (omega arith)

pub close_refused : (b : Pending) (fault other : CloseFault) → IsCloseFault b fault
    → IsCloseFault b other → fault ≡ other
close_refused b close.Closed close.Closed why also = refl
close_refused b close.Closed close.Busy why also = absurd (shut_or_open b why also.0)
close_refused b close.Closed close.Pending why also = absurd (shut_or_open b why also.0)
close_refused b close.Busy close.Closed why also = absurd (shut_or_open b also why.0)
close_refused b close.Busy close.Busy why also = refl
close_refused b close.Busy close.Pending why also = absurd (busy_or_idle b why.1 also.1)
close_refused b close.Pending close.Closed why also = absurd (shut_or_open b also why.0)
close_refused b close.Pending close.Busy why also = absurd (busy_or_idle b also.1 why.1)
close_refused b close.Pending close.Pending why also = refl
