-- Words of zero, the page at home and senders at their starts keep what senders, words, page and
-- owners keep.
use Rattle.std.proofs.Common.{◌≡◌, ℕ, zero, suc, ◌<◌, true, false, Option, Some, None, List, []}
use Rattle.std.proofs.Common.{replicate, slice_get, slice_index, arith, refl, sym, ◌∙◌, ap, subst}
use Rattle.std.proofs.lemmas.Bool.{cases_lt, false≢true}
use Rattle.std.proofs.lemmas.List.{get_or-replicate, get_or_past, length-replicate}
use Rattle.std.proofs.lemmas.List.Elements.{All-from_recursion}
use Rattle.std.proofs.lemmas.Option.{same_Some}
use Rattle.std.proofs.lemmas.Grind.{common_steps}
use Rattle.bus_register.specs.declared.limits.TheConstants.{MOST_SENDERS}
use Rattle.bus_register.specs.Tables.{of_some}
use Rattle.bus_register.specs.Private.TableLaws.{some_of}
use Rattle.bus_register.specs.Protocol.{Protocol, Laws}
use Rattle.bus_ownerbits.specs.OneOwner.{OneOwner}
use Rattle.bus_tenure.specs.Core.{Core, Election, Layout, words_of}
use Rattle.bus_world.specs.World.{IsLayout, AreBases, no_bases, first_page}
use Rattle.bus_world.specs.Private.Sending.{Part, Sending, standing_of, least_of}
use Rattle.bus_world.specs.Log.{first_numbers, ring_numbers, KeepsFloor, Knows}
use Rattle.bus_world.specs.Private.Tenures.{Standing}
use Rattle.bus_world.specs.Private.Tenures.Standing.{Rests}
use Rattle.bus_world.specs.Private.Machines.{Bus, IsNew, new_core}
use Rattle.bus_world.proofs.BusLaws as bus
use Rattle.bus_world.proofs.TenuresLaws as tenures

pub zeros : (n r : ℕ) → slice_index (replicate n 0) r ≡ 0
zeros n r = grind (arith, cases_lt, get_or-replicate, get_or_past, replicate, length-replicate)

pub words_zero : {E : Type 0} {bases : List ℕ} {x : Layout} (b : Bus E) → IsNew bases x b → (r : ℕ)
    → slice_index b.side.words r ≡ 0
words_zero {E} {bases} {x} b new r = ap (λ z. slice_index z r) new.words ∙ zeros (words_of x) r

pub no_bases_are : AreBases no_bases
no_bases_are = record {
  many = length-replicate {A = ℕ} MOST_SENDERS 0;
  low = λ s. let z = zeros MOST_SENDERS s in omega arith;
}

-- where no word of the log is used again
pub flat_low : (x : Layout) (bases : List ℕ) → x.passers ≡ 0 → AreBases bases → (s : ℕ)
    → slice_index bases s < first_numbers x.passers x.batch
flat_low x bases flat are s =
    subst (λ n. slice_index bases s < first_numbers n x.batch) (sym flat) (are.low s)

-- and where words of the log are used again, by the lower limit
pub bases_low : (x : Layout) (bases : List ℕ) → AreBases bases
    → (0 < x.passers → (s : ℕ) → slice_index bases s < ring_numbers x.batch)
    → (s : ℕ) → slice_index bases s < first_numbers x.passers x.batch
bases_low x bases are ring s = grind (arith, common_steps, slice_index, zero, suc)

module _ {E : Type 0} (X : Election E) (P : Protocol E (Unit {0}) ℕ)
    (laws : Laws X.op X.fed P OneOwner) (x : Layout) (ok : IsLayout x) (bases : List ℕ)
    (are : AreBases bases) (low : (s : ℕ) → slice_index bases s < first_numbers x.passers x.batch)
    (words : ℕ → ℕ) (zero_at : (r : ℕ) → words r ≡ 0) (senders : ℕ → Option (Core E))
    (new : (p : ℕ) (c : Core E) → senders p ≡ Some c
    → (p < x.senders) × (c ≡ new_core x (slice_index bases p) p)) where
  new_standing : (p : ℕ) (s : Standing E) → of_some standing_of (senders p) ≡ Some s → s ≡ Rests
  new_standing p s e = grind (arith, common_steps, some_of, same_Some)

  new_least : (p : ℕ) (o : Option (Core E)) → senders p ≡ o → least_of o ≡ 0
  new_least p None e = refl
  new_least p (Some c) e = ap (λ (z : Core E). z.least) (new p c e).1

  new_part : (p : ℕ) (c : Core E) → senders p ≡ Some c → Part (slice_index bases) x words [] p c
  new_part p c e = grind (arith, slice_index, All-from_recursion, false≢true)

  none_left : (n s : ℕ) → s < n → slice_get (replicate n false) s ≡ Some false
  none_left zero s l = absurd (omega arith)
  none_left (suc n) zero l = refl
  none_left (suc n) (suc s) l = none_left n s (omega arith)

  new_knows : Knows (slice_index bases) (first_page bases) [] 0 0
  new_knows = record {
    entries = are.many;
    next = λ s l. omega arith;
    left = λ s l. none_left MOST_SENDERS s l;
    ended = refl;
    tenures = refl;
    words = refl;
    floor = omega arith;
  }

  pub new_sending : Sending (slice_index bases) P x words (Some (first_page bases)) senders [] []
  new_sending = record {
    tenures = tenures.same X.op X.fed P laws x.senders x.rows 2 words 0 true
        (λ q. of_some standing_of (senders q)) (λ _. 0) []
        (tenures.fresh X.op X.fed P laws x.senders x.rows 2 words
        (λ q. of_some standing_of (senders q)) (λ r a d. zero_at r) new_standing)
        words (words 1) true (λ q. of_some standing_of (senders q)) (λ q. least_of (senders q)) []
        (λ r a d. refl) (zero_at 1) refl (λ q. refl) (λ q. new_least q (senders q) refl) refl;
    log = grind (arith, common_steps, slice_index);
    owned = tt;
    page_knows = λ page t e d. grind (arith, common_steps, same_Some, slice_index, new_knows);
    flat_home = λ flat page e. subst KeepsFloor (same_Some _ _ e) refl;
    parts = new_part;
    chosen = λ p c t e o f g out.
        absurd (bus.resting_apart t e (sym (ap (λ (z : Core E). z.phase) (new p c f).1) ∙ g));
  }
