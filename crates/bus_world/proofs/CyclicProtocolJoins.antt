-- Whoever joins keeps all that is kept: a receiver that has not left stores its passed place in
-- that of a higher number, or takes no step where there are no passed places.
use Rattle.std.proofs.Common.{◌≡◌, inr, ℕ, ◌<◌, ◌≤◌, false, Some, None, List}
use Rattle.std.proofs.Common.{is_some, arith, sym, ◌∙◌}
use Rattle.bus_presence.specs.Reclamation.{ReclamationSizes, Trails, Stores, Then}
use Rattle.bus_register.specs.declared.kinds.Kind.TheVariants as kind
use Rattle.bus_register.specs.Protocol.{Protocol, Laws}
use Rattle.bus_register.specs.Tables.{put}
use Rattle.bus_register.specs.Private.TableLaws.{put_beside}
use Rattle.bus_batch.specs.Frames.{Frame}
use Rattle.bus_deliverylog.specs.Receiving.{Receiving}
use Rattle.bus_deliverylog.specs.declared.receiving.RecvTurn.{RecvTurn}
use Rattle.bus_ownerbits.specs.OneOwner.{OneOwner}
use Rattle.bus_tenure.specs.Core.{Election, Layout}
use Rattle.bus_core.specs.Reusing.Participants.{sizes_with}
use Rattle.bus_world.specs.Headline.{Action}
use Rattle.bus_world.specs.Trails.{answers_joined}
use Rattle.bus_world.specs.World.{IsLayout}
use Rattle.bus_world.specs.Private.CyclicProtocols.{CyclicProtocol, protocol_joined, fork_of}
use Rattle.bus_world.specs.Floors.{passed_place, AreFloors}
use Rattle.bus_world.proofs.CyclicProtocolHears.{HearsCyclic, one_joins, forked_hears}
use Rattle.bus_world.proofs.CyclicProtocolKept as kept
use Rattle.bus_world.proofs.FloorLaws.{floors_forked, floors_copied}
use Rattle.bus_world.proofs.RingWords.{laid_passed}

module _ {E : Type 0} (X : Election E) (P : Protocol E (Unit {0}) ℕ)
    (laws : Laws X.op X.fed P OneOwner) (x : Layout) (ok : IsLayout x)
    (width : x.width ≡ P.width x.senders)
    (starts : (n me at : ℕ) → X.started n me x.rounds at ≡ P.started n me tt at)
    (owner_is : (e : E) → X.owner e ≡ P.output e)
    (named : (e : E) (word : ℕ) → is_some (X.kind_of e) ≡ is_some (X.op e word))
    (announces : (e : E) → P.has_begun e ≡ false → X.kind_of e ≡ Some kind.Announce)
    (apart : (e : E) → X.kind_of e ≡ Some kind.TakePage → ⊥)
    (rows : ℕ) (two : 2 ≤ rows) where
  abbrev z : ReclamationSizes
  z = sizes_with x rows

  abbrev Kept : (ℕ → List RecvTurn) → CyclicProtocol E → Trails → (ℕ → List Action) → List ℕ
      → (ℕ → ℕ) → List Frame → Type 0
  Kept = kept.Kept X P laws x ok width starts owner_is named announces apart rows two

  abbrev HasKept : (ℕ → List RecvTurn) → CyclicProtocol E → Trails → (ℕ → List Action)
      → List ℕ → Type 0
  HasKept = kept.HasKept X P laws x ok width starts owner_is named announces apart rows two

  -- whoever joins, with its passed place where frames begin, and no further than floors allow
  module _ (H : ℕ → List RecvTurn) (y : CyclicProtocol E) (T : Trails) (D : ℕ → List Action)
      (L : List ℕ) (V : ℕ → ℕ) (frames : List Frame) (k : Kept H y T D L V frames)
      (j n : ℕ) (w : Receiving) (was : y.receivers j ≡ Some w)
      (nobody : y.receivers n ≡ None) where
    join_kept : j < x.passers → (next : Receiving) (before : List RecvTurn)
        → HearsCyclic x rows frames next before
        → AreFloors x rows (put (passed_place x rows j) next.passed y.reclamation.words) y.passing
        (put j (Some next) y.receivers) frames (V 0) k.floor
        → HasKept (answers_joined before j n H) (protocol_joined x rows y j next) T D L
    join_kept room next before hears floors = record {
      V = V;
      frames = frames;
      kept = record {
        hears = one_joins x rows frames y.receivers H k.hears j n next w before was nobody hears;
        reached = Then y.reclamation (record y.reclamation {
          words = put (passed_place x rows j) next.passed y.reclamation.words;
        }) T T k.reached
            (Stores y.reclamation T (passed_place x rows j) next.passed (inr (omega arith)));
        sending = k.sending;
        log_is = k.log_is;
        W = k.W;
        floor = k.floor;
        stored = k.stored;
        floors = floors;
        laid = laid_passed x rows y.reclamation V k.W k.laid j next.passed room two;
        ties = k.ties;
        notes = k.notes;
        participants = k.participants;
        ready = λ t held none. k.ready t
            (sym (put_beside (passed_place x rows j) next.passed y.reclamation.words 1
            (λ e. omega arith)) ∙ held) none;
      };
    }

    pub fork_kept : (i : ℕ) (v : Receiving) → y.receivers i ≡ Some v → v.gone ≡ false → i < j
        → j < x.passers
        → HasKept (answers_joined (H i) j n H) (protocol_joined x rows y j (fork_of x rows j v)) T
        D L
    fork_kept i v at stays up room = join_kept room (fork_of x rows j v) (H i)
        (forked_hears x rows frames j v (H i) (k.hears.each i v at))
        (floors_forked x rows y.reclamation.words y.passing y.receivers frames (V 0) k.floor
        k.floors i j v at stays up room)

    pub copy_kept : x.passers ≡ 0 → (i : ℕ) (v : Receiving) → y.receivers i ≡ Some v
        → HasKept (answers_joined (H i) j n H)
        (record y { receivers = put j (Some (fork_of x rows j v)) y.receivers }) T D L
    copy_kept flat i v at = record {
      V = V;
      frames = frames;
      kept = record {
        hears = one_joins x rows frames y.receivers H k.hears j n (fork_of x rows j v) w (H i) was
            nobody (forked_hears x rows frames j v (H i) (k.hears.each i v at));
        reached = k.reached;
        sending = k.sending;
        log_is = k.log_is;
        W = k.W;
        floor = k.floor;
        stored = k.stored;
        floors = floors_copied x rows y.reclamation.words y.passing y.receivers frames (V 0)
            k.floor k.floors flat i j v w at was;
        laid = k.laid;
        ties = k.ties;
        notes = k.notes;
        participants = k.participants;
        ready = k.ready;
      };
    }
