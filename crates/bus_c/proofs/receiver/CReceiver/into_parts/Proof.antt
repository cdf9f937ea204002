-- `into_parts` tests the flag, and moves two fields with what they own.
use Rattle.std.proofs.Common.{◌≡◌, Option, ℕ, ◌<◌, ◌^◌, List, [], ◌∷◌, ◌++◌, refl, sym, subst}
use Rattle.std.proofs.Common.{lit<, w32}
use Prim.Native.Nat.{zero, suc}
use mathlib.Core.Bool.{Bool}
use lib.Dec.{T, eqb-suc-zero}
use mir.Val.{Val, vint, vcons, vnil}
use base.Fml.{ftrue, feq}
use base.Logic.{SProp, ent, sep, id⊢}
use seplogic.Ra.Ura.{Ura}
use prog.Memory.{Memory}
use prog.Routine.{Routine}
use prog.Wp.{WpFn, Tables}
use types.Logic.{Logic, sem}
use types.Match.{live}
use types.Kit.{‵, raw, at_ret, ◌⊛◌, ◌$◌, ◌∵◌, !, qed, by, keep, drop, split, fsplit, fjoin, fpick}
use types.Kit.{feq_l, use0, use1, suffices}
use types.Part.{whole, sub, agg}
use types.Run.{stop, fld, lit, bin, no_more, and_then, of_opd, first, branches, skips, exec}
use types.Run.{returns, returns_within, enter}
use types.ByLocal.{alloc_all, pass_all, free_all, look_at, get, get_in, sets, env}
use contract.Monad.{Fun}
use contract.Running.{tables, tables_of}
use denote.Exit.{yes}
use denote.RattleType.{RattleType, owns}
use denote.RawPtr.{Ptr, ptr_val}
use denote.Param.{layout}
use denote.Signature.{types_at, type_at, plain}
use denote.Steps.{nothing}
use denote.Triple.Walked.{Stays, stay_dropped, walk_of, Goes-dropped}
use Rattle.core.proofs.cell.Inside.{Good}
use Rattle.core.proofs.option.Made.{Some-of, none_of}
use Rattle.std.specs.declared.option.Option.TheVariants.{None, Some}
use Rattle.std.specs.Global.{Global}
use Rattle.std.proofs.raw_atomic.Walks.{proved_at, leaves}
use Rattle.bus_c.specs.Held.{receiver_held}
use Rattle.bus_c.proofs.HandleValues.{both, three, Z, Parts, Ptr-Good, parts_good, some_good}
use Rattle.bus_c.proofs.HandleValues.{hand_good, parts_in, states}
use Rattle.bus_c.proofs.ReceiverValues.{Hand, hand_out}
use Rattle.bus_c.specs.contracts.seats.ReceiverSeat as Seat
use Rattle.bus_c.specs.contracts.receiver.CReceiver.into_parts as f
use Rattle.bus_c.proofs.receiver.CReceiver.into_parts.Statement.{statement}
use Rattle.bus_c.proofs.receiver.CReceiver.into_parts.Code as code

abbrev hs : Stays f.ended.signature.params f.ended.kept
hs = (stay_dropped (plain (λ _. Hand)) yes, tt)

module _ {M : Type 1} {𝓤 : Ura M} (𝓛 : Logic 𝓤) (at_mem : Memory → SProp 𝓤) (run : Routine → Fun 𝓤)
    (𝓣 : Tables 𝓤 𝓛.H)
    (z : (walk_of 𝓛 f.ended hs (f.clauses 𝓛 at_mem run)).Ghost) (p : Ptr) (a : Global) (h : Val)
    (fits : Good (layout Z) h) where
  abbrev Post : Val → SProp 𝓤
  Post = (walk_of 𝓛 f.ended hs (f.clauses 𝓛 at_mem run)).post z

  abbrev Out : RattleType
  Out = type_at f.ended.signature.result tt

  abbrev Of : Type 0
  Of = Seat.the_row.Denot

  abbrev held : Option Of
  held = z.0.3.0.held

  body : (n : ℕ) → n < 2 ^ 32
      → ent 𝓤 (sep 𝓤 (sem 𝓛 (receiver_held a n p held)) (sem 𝓛 (Z.own_val a (h ∷ []))))
      (WpFn 𝓤 𝓛.H 𝓣.C 𝓣.Λ code.function (three (ptr_val p) h (vint w32 n) ∷ []) Post)
  body zero low =
      qed 𝓛 (‵ (feq (Option Of) held None) ∷ ‵ (Z.own_val a (h ∷ [])) ∷ []) ∵
      feq_l ! (λ is. drop ! $
      enter ! 𝓣.C 𝓣.Λ code.function (three (ptr_val p) h (vint w32 zero) ∷ []) Post $
      alloc_all ! (λ l. pass_all ! refl (hand_good p h zero fits low, tt) $
      sets ! (of_opd ! (get_in ! (fld ! refl (stop !)) (sub ! 0 refl (whole !)))) refl (Ptr-Good p)
      $ sets ! (of_opd ! (get_in ! (fld ! refl (stop !)) (sub ! 1 refl (whole !)))) refl fits $
      sets ! (of_opd ! (get_in ! (fld ! refl (stop !)) (sub ! 2 refl (whole !)))) refl
      (tt, record { fits = low }) $
      sets ! (bin ! (get ! refl) (lit ! tt) tt) refl (tt, tt) $
      first ! $ branches ! (get ! refl)
      (λ _. sets ! (agg ! (and_then ! (lit ! tt) (no_more !))) refl
      (tt, (record { fits = lit< tt }, tt)) $
      use0 𝓛 (‵ (Out.own_val None (live 0 vnil ∷ []))) (none_of 𝓛 (Parts Seat.the_row)) $
      nothing ! $ nothing ! $ nothing ! $ fjoin ! $ nothing ! $
      returns_within ! Post refl (look_at ! 0 refl) $ free_all ! refl $ keep ! (0 ∷ 1 ∷ 3 ∷ []) $
      states (held ≡ None) is $ keep ! (1 ∷ 2 ∷ 3 ∷ 0 ∷ []) $
      by ! (leaves 𝓛 f.ended hs (f.clauses 𝓛 at_mem run) z (live 0 vnil) None (tt, tt) (tt, tt)))
      (λ wrong. absurd wrong)))
  body (suc n) low =
      let w = both (ptr_val p) h in let good = parts_good p h fits in
      qed 𝓛 (‵ (receiver_held a (suc n) p held) ∷ ‵ (Z.own_val a (h ∷ [])) ∷ []) ∵
      fpick ! (λ x.
      fsplit ! $
      feq_l ! (λ is.
      parts_in Seat.the_row ! p h a x $
      use1 𝓛
      (‵ (Out.own_val (Some (record { ptr = p; alloc = a; value = x }))
      (live 1 (vcons w vnil) ∷ [])))
      (Some-of 𝓛 (Parts Seat.the_row) (record { ptr = p; alloc = a; value = x }) w) $
      enter ! 𝓣.C 𝓣.Λ code.function (three (ptr_val p) h (vint w32 (suc n)) ∷ []) Post $
      alloc_all ! (λ l. pass_all ! refl (hand_good p h (suc n) fits low, tt) $
      sets ! (of_opd ! (get_in ! (fld ! refl (stop !)) (sub ! 0 refl (whole !)))) refl (Ptr-Good p)
      $ sets ! (of_opd ! (get_in ! (fld ! refl (stop !)) (sub ! 1 refl (whole !)))) refl fits $
      sets ! (of_opd ! (get_in ! (fld ! refl (stop !)) (sub ! 2 refl (whole !)))) refl
      (tt, record { fits = low }) $
      sets ! (bin ! (get ! refl) (lit ! tt) tt) refl (tt, tt) $
      first ! $
      branches ! (get ! refl) (λ wrong. absurd (subst (λ (y : Bool). T y) (eqb-suc-zero n) wrong))
      (λ _.
      skips ! $
      exec ! 𝓣.C 𝓣.Λ (env code.Mir.locals l) code.Mir.t-6 (at_ret (env code.Mir.locals l) Post) $
      sets ! (of_opd ! (get ! refl)) refl (Ptr-Good p) $
      sets ! (agg ! (and_then ! (get ! refl) (and_then ! (get ! refl) (no_more !)))) refl good $
      sets ! (agg ! (and_then ! (lit ! tt) (and_then ! (get ! refl) (no_more !)))) refl
      (some_good p h fits) $
      nothing ! $ nothing ! $ nothing ! $ fjoin ! $ nothing ! $
      returns ! (look_at ! 0 refl) $ free_all ! refl $ keep ! (0 ∷ 1 ∷ 3 ∷ []) $
      states (held ≡ Some x) is $ keep ! (1 ∷ 2 ∷ 3 ∷ 0 ∷ []) $
      by ! (leaves 𝓛 f.ended hs (f.clauses 𝓛 at_mem run) z (live 1 (vcons w vnil))
      (Some (record { ptr = p; alloc = a; value = x })) (tt, tt) (tt, tt))))))

pub into_parts_spec : {M : Type 1} → statement M
unfolding tables_of
into_parts_spec 𝓤 𝓛 𝓜 𝓡 wired =
    let 𝓣 = tables_of 𝓤 𝓛.H 𝓜 (tables 𝓤 𝓛.H 𝓜 𝓡 𝓡.env) in let c = f.clauses 𝓛 𝓜.mem 𝓡.returns in
    proved_at 𝓛 f.ended hs c 𝓜 𝓡 (Goes-dropped 𝓛 0 (plain (λ _. Hand)) yes (λ κs x w. refl), tt)
    f.Key.name code.function (code.unfolded 𝓤 𝓛.H 𝓜 𝓡 wired) (λ z are.
    let d = z.0.3.0 in
    let Run : List Val → SProp 𝓤 =
    λ ws. WpFn 𝓤 𝓛.H 𝓣.C 𝓣.Λ code.function ws ((walk_of 𝓛 f.ended hs c).post z) in
    qed 𝓛 ((‵ ftrue ⊛ ‵ (owns (types_at f.ended.signature.params z.0.0) z.0.3 z.0.4))
    ∷ raw ((c z.0.0 z.0.3).requires z.1) ∷ []) ∵ split ! $ drop ! $ fsplit ! $
    hand_out ! d z.0.4.0 (λ h e fits low. let w : Val = three (ptr_val d.at) h (vint w32 d.live) in
    suffices ! (Run (w ∷ [])) (subst (λ (us : List Val). ent 𝓤 (Run (w ∷ [])) (Run us))
    (sym (λ i. e i ++ [])) (id⊢ 𝓤 (Run (w ∷ [])))) $
    keep ! (0 ∷ 1 ∷ []) $ by ! (body 𝓛 𝓜.mem 𝓡.returns 𝓣 z d.at d.alloc h fits d.live low)))
