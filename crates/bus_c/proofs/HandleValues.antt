-- The parts of a box and of a handle, as values; parts taken apart and put together, whatever seat
-- lies there. Assumes `Logic`.
use Rattle.std.proofs.Common.{◌≡◌, ℕ, ◌<◌, ◌^◌, List, [], ◌∷◌, ◌++◌, refl, subst, w32}
use mathlib.Core.Bool.{true, ◌&&◌}
use lib.Dec.{T}
use seplogic.Ra.Ura.{Ura}
use mir.Syntax.{impl, tnil, ty_ptr, ty_int}
use mir.Val.{Val, vstruct, vcons, vnil, vint, of_list, has_ty, WT}
use mir.ValLaws.{and_in}
use types.Logic.{Logic}
use types.Match.{live}
use base.Logic.{emp}
use contract.Monad.{fact, fact_i}
use types.Kit.{Item, Goal, Seq, Step, step, ‵, raw, use0, ◌$◌, move, drop, fsplit, fjoin, fpick}
use types.Kit.{fpack, feq_i, feq_l}
use denote.RattleType.{RattleType, Valss}
use denote.Builtin.{RawPtr}
use denote.RawPtr.{Ptr, ptr_val}
use denote.Steps.{nothing}
use denote.Param.{layout}
use denote.Struct.Struct.{within}
use denote.Struct.Owning.{shape}
use Rattle.core.proofs.alloc.Calls.{Al, handle_tells}
use Rattle.core.proofs.cell.Inside.{Good}
use Rattle.std.specs.Box.Ownership.{box_owns}
use Rattle.std.specs.Global.{Global}
use Rattle.std.specs.contracts.alloc.Global as Heap
use Rattle.std.proofs.alloc.Global.TheLaws as heap
use Rattle.std.specs.contracts.impls.GlobalAllocator.TheImpl.{ghosts, dict}
use Rattle.bus_c.specs.contracts.parts.Parts as parts

abbrev pub both : Val → Val → Val
both v w = vstruct (vcons v (vcons w vnil))

abbrev pub three : Val → Val → Val → Val
three u v w = vstruct (vcons u (vcons v (vcons w vnil)))

pub Ptr-Good : (p : Ptr) → T (has_ty ty_ptr (ptr_val p)) × WT (ptr_val p)
Ptr-Good (denote.RawPtr.block_ptr b o) = (tt, tt)
Ptr-Good denote.RawPtr.null_ptr = (tt, record { fits = lib.Dec.lit< tt })

abbrev pub Z : RattleType
Z = Heap.the_row

abbrev pub Parts : RattleType → RattleType
Parts R = parts.the_row R Z ghosts

abbrev pub al : Al
al = record {
  row = Z;
  laws = heap.the_row_laws;
  g = ghosts;
  d = dict;
  drops = impl [] tnil mir.Syntax.dnil;
}

pub parts_good : (p : Ptr) (h : Val) → Good (layout Z) h
    → T (has_ty ty_ptr (ptr_val p) && (has_ty (layout Z) h && true)) × WT (both (ptr_val p) h)
parts_good p h fits = (
  and_in (has_ty ty_ptr (ptr_val p)) _ (Ptr-Good p).0 (and_in (has_ty (layout Z) h) true fits.0 tt),
  ((Ptr-Good p).1, (fits.1, tt)),
)

pub some_good : (p : Ptr) (h : Val) → Good (layout Z) h
    → T ((has_ty ty_ptr (ptr_val p) && (has_ty (layout Z) h && true)) && true)
    × WT (live 1 (vcons (both (ptr_val p) h) vnil))
some_good p h fits =
    let g = parts_good p h fits in
    (and_in _ true g.0 tt, (record { fits = lib.Dec.lit< tt }, (g.1, tt)))

pub hand_good : (p : Ptr) (h : Val) (n : ℕ) → Good (layout Z) h → n < 2 ^ 32
    → T (has_ty ty_ptr (ptr_val p)
    && (has_ty (layout Z) h && (has_ty (ty_int w32) (vint w32 n) && true)))
    × WT (three (ptr_val p) h (vint w32 n))
hand_good p h n fits low = (
  and_in (has_ty ty_ptr (ptr_val p)) _ (Ptr-Good p).0 (and_in (has_ty (layout Z) h) true fits.0 tt),
  ((Ptr-Good p).1, (fits.1, (record { fits = low }, tt))),
)

module _ {M : Type 1} {𝓤 : Ura M} {𝓛 : Logic 𝓤} {K : Type 0} {Γ : List (Item 𝓤)}
    {G : Goal 𝓤 𝓛.H} where
  pub parts_out : (R : RattleType) → K → (d : (Parts R).Denot) (vs : List Val)
      → ((h : Val) → vs ≡ both (ptr_val d.ptr) h ∷ [] → Good (layout Z) h
      → Seq K 𝓛 (‵ (box_owns (ghosts.dealloc_token d.alloc) R d.ptr d.value)
      ∷ ‵ (Z.own_val d.alloc (h ∷ [])) ∷ Γ) G)
      → Seq K 𝓛 (‵ ((Parts R).own_val d vs) ∷ Γ) G
  parts_out R t d vs k =
      fsplit t $
      fpick t (λ vss.
      fsplit t $
      feq_l t (λ ev.
      fsplit t $
      feq_l t (λ ep.
      fsplit t $
      handle_tells al t d.alloc vss.1.0
      (λ h ea fits. move t (1 ∷ []) $ drop t $ move t (1 ∷ []) $ k h
      (subst (λ (ws : List Val). vs ≡ vstruct (of_list (ptr_val d.ptr ∷ (ws ++ []))) ∷ []) ea
      (subst (λ (ps : List Val). vs ≡ vstruct (of_list (ps ++ (vss.1.0 ++ []))) ∷ []) ep ev))
      fits))))

  pub parts_in : (R : RattleType) → K → (p : Ptr) (h : Val) (a : Global) (x : R.Denot)
      → Step K 𝓛
      (‵ ((Parts R).own_val (record { ptr = p; alloc = a; value = x }) (both (ptr_val p) h ∷ []))
      ∷ Γ) G (‵ (box_owns (ghosts.dealloc_token a) R p x) ∷ ‵ (Z.own_val a (h ∷ [])) ∷ Γ) G
  parts_in R t p h a x = step (λ s. let v : Val = both (ptr_val p) h in
      nothing t $ move t (2 ∷ 0 ∷ []) $ fjoin t $
      feq_i t (List Val) (ptr_val p ∷ []) (ptr_val p ∷ []) refl $ fjoin t $
      feq_i t (List Val) (v ∷ []) (v ∷ []) refl $ fjoin t $
      fpack t (Valss (RawPtr ∷ Z ∷ []))
      (within (shape (parts.the_type R Z ghosts)) (p, (a, tt)) (v ∷ []))
      (ptr_val p ∷ [], (h ∷ [], tt)) $ fjoin t $ s)

  -- a fact is had besides
  pub states : (φ : Type 0) → φ → Step K 𝓛 (raw (fact 𝓤 φ) ∷ Γ) G Γ G
  states φ x = use0 𝓛 (raw (fact 𝓤 φ)) (fact_i 𝓤 φ (emp 𝓤) x)
