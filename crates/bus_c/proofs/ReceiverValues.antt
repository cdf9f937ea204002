-- The handle of a receiver, taken apart and put together. Assumes `Logic`.
use Rattle.std.proofs.Common.{◌≡◌, ℕ, ◌<◌, ◌^◌, List, [], ◌∷◌, ◌++◌, refl, subst, w32}
use seplogic.Ra.Ura.{Ura}
use mir.Val.{Val, vstruct, vint, of_list}
use types.Logic.{Logic}
use types.Kit.{Item, Goal, Seq, Step, step, ‵, ◌$◌, move, drop, fsplit, fjoin, fpick, fpack, feq_i}
use types.Kit.{feq_l}
use denote.RattleType.{RattleType, Valss}
use denote.Builtin.{RawPtr, u32}
use denote.Laws.{Is, shows}
use denote.Plain.{uint_Makes}
use denote.RawPtr.{Ptr, ptr_val}
use denote.Steps.{nothing, peeks, owned}
use denote.Param.{layout}
use denote.Struct.Struct.{within}
use denote.Struct.Owning.{shape}
use Rattle.core.proofs.alloc.Calls.{handle_tells}
use Rattle.core.proofs.cell.Inside.{Good}
use Rattle.std.specs.Global.{Global}
use Rattle.std.specs.Prelude.{Option}
use Rattle.bus_c.specs.Held.{receiver_held}
use Rattle.bus_c.specs.contracts.seats.ReceiverSeat as Seat
use Rattle.bus_c.specs.contracts.receiver.CReceiver as Handle
use Rattle.bus_c.proofs.HandleValues.{three, Z, al}

abbrev pub Hand : RattleType
Hand = Handle.the_row

module _ {M : Type 1} {𝓤 : Ura M} {𝓛 : Logic 𝓤} {K : Type 0} {Γ : List (Item 𝓤)}
    {G : Goal 𝓤 𝓛.H} where
  pub hand_out : K → (d : Hand.Denot) (vs : List Val)
      → ((h : Val) → vs ≡ three (ptr_val d.at) h (vint w32 d.live) ∷ [] → Good (layout Z) h
      → d.live < 2 ^ 32
      → Seq K 𝓛 (‵ (receiver_held d.alloc d.live d.at d.held) ∷ ‵ (Z.own_val d.alloc (h ∷ [])) ∷ Γ)
      G)
      → Seq K 𝓛 (‵ (Hand.own_val d vs) ∷ Γ) G
  hand_out t d vs k =
      fsplit t $
      fpick t (λ vss.
      fsplit t $
      feq_l t (λ ev.
      fsplit t $
      feq_l t
      (λ ep. fsplit t $ handle_tells al t d.alloc vss.1.0 (λ h ea fits. move t (1 ∷ []) $ fsplit t $
      peeks t u32 (Is u32) (shows 𝓛 u32) d.live vss.1.1.0
      (λ is. drop t $ drop t $ move t (1 ∷ []) $ k h
      (subst (λ (ns : List Val). vs ≡ vstruct (of_list (ptr_val d.at ∷ h ∷ (ns ++ []))) ∷ []) is.0
      (subst
      (λ (ws : List Val). vs ≡ vstruct (of_list (ptr_val d.at ∷ (ws ++ (vss.1.1.0 ++ [])))) ∷ []) ea
      (subst (λ (ps : List Val). vs ≡ vstruct (of_list (ps ++ (vss.1.0 ++ (vss.1.1.0 ++ [])))) ∷ [])
      ep ev))) fits is.1)))))

  pub hand_in : K → (p : Ptr) (h : Val) (a : Global) (n : ℕ) (x : Option Seat.the_row.Denot)
      → n < 2 ^ 32
      → Step K 𝓛
      (‵ (Hand.own_val (record { at = p; alloc = a; live = n; held = x })
      (three (ptr_val p) h (vint w32 n) ∷ [])) ∷ Γ) G
      (‵ (receiver_held a n p x) ∷ ‵ (Z.own_val a (h ∷ [])) ∷ Γ) G
  hand_in t p h a n x low = step (λ s. let v : Val = three (ptr_val p) h (vint w32 n) in
      nothing t $ owned t u32 (Is u32) (uint_Makes 𝓛 w32) n (vint w32 n ∷ []) (refl, low) $
      fjoin t $ move t (2 ∷ 0 ∷ []) $ fjoin t $
      feq_i t (List Val) (ptr_val p ∷ []) (ptr_val p ∷ []) refl $ fjoin t $
      feq_i t (List Val) (v ∷ []) (v ∷ []) refl $ fjoin t $
      fpack t (Valss (RawPtr ∷ Z ∷ u32 ∷ []))
      (within (shape Handle.the_type) (p, (((tt, tt), tt), (n, tt))) (v ∷ []))
      (ptr_val p ∷ [], (h ∷ [], (vint w32 n ∷ [], tt))) $ fjoin t $ s)
