-- `of_parts` moves two fields, and what they own goes with them.
use Rattle.std.proofs.Common.{◌≡◌, Option, Some, List, [], ◌∷◌, ◌++◌, refl, sym, subst, lit<, w32}
use mir.Val.{Val, vint}
use base.Fml.{fsep, feq}
use base.Logic.{SProp, ent, id⊢}
use prog.Wp.{WpFn}
use types.Kit.{‵, raw, ◌⊛◌, ◌$◌, ◌∵◌, !, qed, by, keep, drop, split, fsplit, fjoin, feq_i, fpack}
use types.Kit.{suffices}
use types.Part.{whole, sub, agg}
use types.Run.{stop, fld, lit, no_more, and_then, of_opd, returns, enter}
use types.ByLocal.{alloc_all, pass_all, free_all, look_at, get, get_in, sets}
use contract.Running.{tables}
use denote.Exit.{yes}
use denote.RattleType.{owns}
use denote.RawPtr.{ptr_val}
use denote.Signature.{types_at, plain}
use denote.Steps.{nothing}
use denote.Triple.Walked.{Stays, stay_dropped, walk_of, Goes-dropped}
use Rattle.std.proofs.raw_atomic.Walks.{proved_at, leaves}
use Rattle.std.specs.Box.Ownership.{box_owns}
use Rattle.std.specs.contracts.impls.GlobalAllocator.TheImpl.{ghosts}
use Rattle.bus_c.specs.contracts.seats.ReceiverSeat as Seat
use Rattle.bus_c.proofs.HandleValues.{both, three, Parts, Ptr-Good, parts_good, hand_good}
use Rattle.bus_c.proofs.HandleValues.{parts_out, states}
use Rattle.bus_c.proofs.ReceiverValues.{hand_in}
use Rattle.bus_c.specs.contracts.receiver.CReceiver.of_parts as f
use Rattle.bus_c.proofs.receiver.CReceiver.of_parts.Statement.{statement}
use Rattle.bus_c.proofs.receiver.CReceiver.of_parts.Code as code

pub of_parts_spec : {M : Type 1} → statement M
of_parts_spec 𝓤 𝓛 𝓜 𝓡 wired =
    let 𝓣 = tables 𝓤 𝓛.H 𝓜 𝓡 𝓡.env in let c = f.clauses 𝓛 𝓜.mem 𝓡.returns in
    let hs : Stays f.ended.signature.params f.ended.kept =
    (stay_dropped (plain (λ _. Parts Seat.the_row)) yes, tt) in
    proved_at 𝓛 f.ended hs c 𝓜 𝓡 (
      Goes-dropped 𝓛 0 (plain (λ _. Parts Seat.the_row)) yes (λ κs x w. refl),
      tt,
    ) f.Key.name code.function (code.unfolded 𝓤 𝓛.H 𝓜 𝓡 wired) (λ z are.
    let v = z.0.3.0 in
    let Post : Val → SProp 𝓤 = (walk_of 𝓛 f.ended hs c).post z in
    let Run : List Val → SProp 𝓤 = λ ws. WpFn 𝓤 𝓛.H 𝓣.C 𝓣.Λ code.function ws Post in
    qed 𝓛 ((‵ base.Fml.ftrue ⊛ ‵ (owns (types_at f.ended.signature.params z.0.0) z.0.3 z.0.4))
    ∷ raw ((c z.0.0 z.0.3).requires z.1) ∷ []) ∵ split ! $ drop ! $ fsplit ! $
    parts_out Seat.the_row ! v z.0.4.0 (λ h e fits.
    let w : Val = both (ptr_val v.ptr) h in let out : Val = three (ptr_val v.ptr) h (vint w32 1) in
    suffices ! (Run (w ∷ [])) (subst (λ (us : List Val). ent 𝓤 (Run (w ∷ [])) (Run us))
    (sym (λ i. e i ++ [])) (id⊢ 𝓤 (Run (w ∷ [])))) $
    enter ! 𝓣.C 𝓣.Λ code.function (w ∷ []) Post $
    alloc_all ! (λ l. pass_all ! refl (parts_good v.ptr h fits, tt) $
    sets ! (of_opd ! (get_in ! (fld ! refl (stop !)) (sub ! 0 refl (whole !)))) refl
    (Ptr-Good v.ptr) $
    sets ! (of_opd ! (get_in ! (fld ! refl (stop !)) (sub ! 1 refl (whole !)))) refl fits $
    sets ! (of_opd ! (get ! refl)) refl (Ptr-Good v.ptr) $
    sets !
    (agg ! (and_then ! (get ! refl) (and_then ! (get ! refl) (and_then ! (lit ! tt) (no_more !)))))
    refl (hand_good v.ptr h 1 fits (lit< tt)) $
    feq_i ! (Option Seat.the_row.Denot) (Some v.value) (Some v.value) refl $ fjoin ! $
    fpack ! Seat.the_row.Denot (λ x. fsep (feq (Option Seat.the_row.Denot) (Some v.value) (Some x))
    (box_owns (ghosts.dealloc_token v.alloc) Seat.the_row v.ptr x)) v.value $
    hand_in ! v.ptr h v.alloc 1 (Some v.value) (lit< tt) $ nothing ! $ nothing ! $ fjoin ! $
    nothing ! $
    returns ! (look_at ! 0 refl) $ free_all ! refl $ keep ! (0 ∷ 1 ∷ 2 ∷ []) $
    states (Some v.value ≡ Some v.value) refl $ keep ! (1 ∷ 2 ∷ 3 ∷ 0 ∷ []) $
    by ! (leaves 𝓛 f.ended hs c z out
    (record { at = v.ptr; alloc = v.alloc; live = 1; held = Some v.value }) (tt, tt) (tt, tt)))))
