-- What each step does to the floor and to passed places, and where frames begin: a passed place
-- only rises, and so does the floor.
use Rattle.std.proofs.Common.{◌≡◌, ◌≢◌, ◌⊎◌, inl, inr, ℕ, ◌<◌, ◌≤◌, true, false, nat_lt, Option}
use Rattle.std.proofs.Common.{Some, None, List, [], ◌++◌, length, take, drop, slice_get, arith}
use Rattle.std.proofs.Common.{refl, sym, ◌∙◌, ap, subst, append_assoc}
use Rattle.std.proofs.lemmas.Bool.{cases_eq, ltb-true, ltb-false, true≢false}
use Rattle.std.proofs.lemmas.List.{append-nil, length-append, length-take, take-append-drop}
use Rattle.std.proofs.lemmas.Grind.{flat_map-append, common_steps}
use Rattle.std.proofs.lemmas.List.Elements.{All-nil}
use Rattle.std.proofs.lemmas.Option.{same_Some}
use Rattle.bus_register.specs.declared.limits.TheConstants.{PLACES, PASSED_ALL}
use Rattle.bus_register.specs.Tables.{put}
use Rattle.bus_register.specs.Private.TableLaws.{put_here, put_beside}
use Rattle.bus_batch.proofs.Feeding.{whole_log}
use Rattle.bus_batch.specs.Frames.{Frame, AreFrames, log_words, log_pieces}
use Rattle.bus_batch.specs.Reading.{Reading, Awaits, is_between}
use Rattle.bus_batch.specs.declared.readers.Place.{Place}
use Rattle.bus_batch.specs.declared.readers.Place.TheVariants.{Between, Body, Data, Ended, Bad}
use Rattle.bus_core.specs.Reusing.Passing.{passing_begun, passing_fed}
use Rattle.bus_core.specs.declared.reuses.Passing.{Passing}
use Rattle.bus_deliverylog.specs.Receiving.{Receiving}
use Rattle.bus_presence.proofs.ReclamationKept.{lt_tells}
use Rattle.bus_tenure.specs.Core.{Layout}
use Rattle.bus_tenure.specs.Situations.{lesser}
use Rattle.bus_world.proofs.Standing.{frames_begin}
use Rattle.bus_world.specs.Floors.{IsBoundary, passed_place, passed_of, IsPasser, AreFloors}
use Rattle.bus_world.specs.Private.Receiving.{Receives}

-- ---- where frames begin
pub boundary_first : (frames : List Frame) → IsBoundary frames 0
boundary_first frames = record { front = []; rest = frames; frames_are = refl; place_is = refl }

pub boundary_last : (frames : List Frame) → IsBoundary frames (length (log_words frames))
boundary_last frames = grind (arith, common_steps, append-nil)

-- where more frames follow
pub boundary_later : (frames more : List Frame) (place : ℕ) → IsBoundary frames place
    → IsBoundary (frames ++ more) place
boundary_later frames more place b = grind (arith, common_steps, append_assoc)

boundary_low : (frames : List Frame) (place : ℕ) → IsBoundary frames place
    → place ≤ length (log_words frames)
boundary_low frames place b = grind (arith, common_steps, length, flat_map-append, length-append)

-- where no frame is under way
between : (r : Reading) (p : Place) → is_between p ≡ true → Awaits (record r { place = p }) [] []
between r Between e = ([], (tt, All-nil (λ f. slice_get r.left f.owner.0 ≡ Some false)), refl, refl)
between r (Body owner left room) e = absurd (true≢false (sym e))
between r (Data owner left room number len) e = absurd (true≢false (sym e))
between r Ended e = absurd (true≢false (sym e))
between r Bad e = absurd (true≢false (sym e))

pub place_begins : (n : ℕ) (frames : List Frame) (len place known : ℕ) (reading : Reading)
    → Receives n frames len place known reading → AreFrames n frames
    → length (log_words frames) ≡ len → is_between reading.place ≡ true
    → IsBoundary frames place
place_begins n frames len place known reading h lawful size is =
    let read = whole_log _ n (take place (log_words frames)) (take place
    (log_pieces frames)) reading
    h.has_read (between reading reading.place is) in
    let begun = frames_begin n 0 0 read.frames frames (drop place (log_words frames)) read.lawful
    lawful
    (ap (λ ws. ws ++ drop place (log_words frames)) read.words_are
    ∙ take-append-drop place (log_words frames)) in
    grind (arith, common_steps, length-take, length)

-- ---- the lesser of two numbers
pub lesser_is : (a b : ℕ)
    → ((lesser a b ≡ a) × (a ≤ b)) ⊎ ((lesser a b ≡ b) × (b ≤ a))
lesser_is a b = grind (arith, common_steps, nat_lt, ltb-true, ltb-false)

-- two passed places are two words
pub places_apart : (x : Layout) (rows r q : ℕ) → r ≢ q
    → passed_place x rows r ≢ passed_place x rows q
places_apart x rows r q ne same = ne (omega arith)

-- where no word of the log is used again there are none
pub passed_none : (x : Layout) (rows r : ℕ) → x.passers ≡ 0 → passed_of x rows r ≡ None
passed_none x rows r flat = grind (arith, common_steps, lt_tells)

module _ (x : Layout) (rows : ℕ) where
  abbrev shown : (ℕ → ℕ) → ℕ → ℕ
  shown words r = words (passed_place x rows r)

  -- ---- at the beginning
  pub floors_new : (words : ℕ → ℕ) → ((r : ℕ) → words r ≡ 0)
      → (receivers : ℕ → Option Receiving)
      → ((r : ℕ) (v : Receiving) → receivers r ≡ Some v
      → (v.passed_at ≡ passed_of x rows r) × ((x.passers ≡ 0) ⊎ (r < x.passers))
      × (v.passed ≡ 0) × (v.gone ≡ false))
      → AreFloors x rows words passing_begun receivers [] 0 0
  floors_new words zeros receivers new = grind (arith, common_steps, boundary_first, true≢false)

  module _ (words : ℕ → ℕ) (passing : Passing) (receivers : ℕ → Option Receiving)
      (frames : List Frame) (len floor : ℕ)
      (h : AreFloors x rows words passing receivers frames len floor) where
    -- ---- what changes no passed place
    pub floors_over : (words' : ℕ → ℕ) (len' : ℕ) → len' ≡ len
        → ((r : ℕ) → r < x.passers → shown words' r ≡ shown words r)
        → AreFloors x rows words' passing receivers frames len' floor
    floors_over words' len' long same = grind (arith, common_steps)

    -- ---- frames are published
    pub floors_later : (more : List Frame) (len' : ℕ) → len ≤ len'
        → AreFloors x rows words passing receivers (frames ++ more) len' floor
    floors_later more len' longer = grind (arith, common_steps, boundary_later)

    -- ---- a tenure begins
    pub floors_begun : len < PLACES
        → AreFloors x rows words passing_begun receivers frames len floor
    floors_begun few = grind (arith, common_steps)

    -- ---- a passed place is loaded
    pub floors_read : passing.loaded < x.passers
        → AreFloors x rows words (passing_fed passing (shown words passing.loaded)) receivers
        frames len floor
    floors_read left = grind (arith, common_steps, lesser_is, cases_eq)

    -- and with the last one the floor rises
    abbrev risen : ℕ
    risen = lesser (lesser passing.least len) PLACES

    module _ (some : 0 < x.passers) (all : x.passers ≤ passing.loaded)
        (size : length (log_words frames) ≡ len) (few : len < PLACES) where
      risen_is : ((risen ≡ passing.least) × (passing.least ≤ len))
          ⊎ ((risen ≡ len) × (len ≤ passing.least))
      risen_is = grind (arith, common_steps, lesser_is)

      risen_low : (risen ≤ len) × (risen ≤ passing.least)
      risen_low = grind (arith, common_steps, risen_is)

      behind_risen : (r : ℕ) → r < x.passers → risen ≤ shown words r
      behind_risen r l =
          let a = risen_low.1 in let b = h.loaded r (omega arith) l in omega arith

      risen_begins : IsBoundary frames risen
      risen_begins = grind (arith, common_steps, risen_is, boundary_last)

      pub floors_risen : (floor ≤ risen)
          × AreFloors x rows words passing receivers frames len risen
      floors_risen = grind (arith, common_steps, risen_is, behind_risen, risen_begins)

    -- ---- a receiver takes a turn
    module _ (r : ℕ) (v : Receiving) (there : receivers r ≡ Some v) where
      others : (next : Receiving) (q : ℕ) (w : Receiving) → q ≢ r
          → put r (Some next) receivers q ≡ Some w → receivers q ≡ Some w
      others next q w ne e = sym (put_beside r (Some next) receivers q ne) ∙ e

      own_now : (next : Receiving) (q : ℕ) (w : Receiving) → q ≡ r
          → put r (Some next) receivers q ≡ Some w → next ≡ w
      own_now next q w i e = same_Some _ _
          (sym (ap (put r (Some next) receivers) i ∙ put_here r (Some next) receivers) ∙ e)

      -- which stores nothing
      pub floors_heard : (next : Receiving) → IsPasser x rows words floor r next
          → AreFloors x rows words passing (put r (Some next) receivers) frames len floor
      floors_heard next own = record {
        low = h.low;
        none = h.none;
        behind = h.behind;
        least = h.least;
        loaded = h.loaded;
        begins = h.begins;
        edges = h.edges;
        edge = h.edge;
        each = λ q w e. elim (cases_eq q r) [
          | inl i ↦ subst (λ k. IsPasser x rows words floor k w) (sym i)
              (subst (IsPasser x rows words floor r) (own_now next q w i e) own)
          | inr ne ↦ h.each q w (others next q w ne e)
        ];
      }

      -- or stores a number in its passed place, which does not fall
      module _ (n : ℕ) (next : Receiving) where
        abbrev stored : ℕ → ℕ
        stored = put (passed_place x rows r) n words

        here : shown stored r ≡ n
        here = put_here (passed_place x rows r) n words

        beside : (q : ℕ) → q ≢ r → shown stored q ≡ shown words q
        beside q ne = put_beside (passed_place x rows r) n words (passed_place x rows q)
            (places_apart x rows q r ne)

        module _ (higher : shown words r ≤ n) (edge : IsBoundary frames n ⊎ (n ≡ PASSED_ALL))
            (own : IsPasser x rows stored floor r next) where
          rises : (q : ℕ) → shown words q ≤ shown stored q
          rises q = grind (arith, common_steps, cases_eq, here, beside)

          pub floors_stored : AreFloors x rows stored passing (put r (Some next) receivers) frames
              len floor
          floors_stored = record {
            low = h.low;
            none = h.none;
            behind = λ q l. (let a = h.behind q l in let b = rises q in omega arith);
            least = h.least;
            loaded = λ q l m. (let a = h.loaded q l m in let b = rises q in omega arith);
            begins = h.begins;
            edges = λ q l. grind (arith, common_steps, cases_eq, here, beside);
            edge = h.edge;
            each = λ q w e. elim (cases_eq q r) [
              | inl i ↦ subst (λ k. IsPasser x rows stored floor k w) (sym i)
                  (subst (IsPasser x rows stored floor r) (own_now next q w i e) own)
              | inr ne ↦ grind (arith, common_steps, others, beside)
            ];
          }

    -- ---- a receiver joins
    -- with the number j, whose passed place shows n from then on, whatever it showed
    module _ (j n : ℕ) (next : Receiving) where
      abbrev joined : ℕ → ℕ
      joined = put (passed_place x rows j) n words

      joined_here : shown joined j ≡ n
      joined_here = put_here (passed_place x rows j) n words

      joined_beside : (q : ℕ) → q ≢ j → shown joined q ≡ shown words q
      joined_beside q ne = put_beside (passed_place x rows j) n words (passed_place x rows q)
          (places_apart x rows q j ne)

      -- no word before the floor is asked for, nor, if the holder has loaded that passed place, one
      -- before the least that it has seen
      module _ (past : floor ≤ n) (seen : j < passing.loaded → passing.least ≤ n)
          (edge : IsBoundary frames n ⊎ (n ≡ PASSED_ALL))
          (own : IsPasser x rows joined floor j next) where
        pub floors_joined : AreFloors x rows joined passing (put j (Some next) receivers) frames
            len floor
        floors_joined =
            grind (arith, cases_eq, joined_here, joined_beside, same_Some, put_here, put_beside)

    -- A receiver i that has not left gives a place of its own to a higher number. Passed places are
    -- loaded in rising order: a holder that has loaded that of j has loaded that of i, which has
    -- only risen since.
    module _ (i j : ℕ) (v : Receiving) (there : receivers i ≡ Some v) (stays : v.gone ≡ false)
        (up : i < j) (room : j < x.passers) where
      pub floors_forked : AreFloors x rows (put (passed_place x rows j) v.passed words) passing
          (put j (Some (record v { passed_at = passed_of x rows j })) receivers) frames len floor
      floors_forked =
          let p = h.each i v there in
          let behind = p.behind stays in
          let shows = p.shows stays (omega arith) in
          floors_joined j v.passed (record v { passed_at = passed_of x rows j }) behind
          (λ before. (let a = h.loaded i (omega arith) (omega arith) in omega arith))
          (subst (λ n. IsBoundary frames n ⊎ (n ≡ PASSED_ALL)) shows (h.edges i (omega arith)))
          record {
            at = refl;
            many = inr room;
            past = p.past;
            behind = λ s. behind;
            shows = λ s l. put_here (passed_place x rows j) v.passed words;
            left = λ gone l. absurd (true≢false (sym gone ∙ stays));
          }

    -- Where there are no passed places nothing is stored, and any receiver that there is gives a
    -- place of its own to any number.
    module _ (flat : x.passers ≡ 0) (i j : ℕ) (v w : Receiving) (there : receivers i ≡ Some v)
        (was : receivers j ≡ Some w) where
      pub floors_copied : AreFloors x rows words passing
          (put j (Some (record v { passed_at = passed_of x rows j })) receivers) frames len floor
      floors_copied =
          let p = h.each i v there in
          floors_heard j w was (record v { passed_at = passed_of x rows j }) record {
            at = refl;
            many = inl flat;
            past = p.past;
            behind = p.behind;
            shows = λ s l. absurd (omega arith);
            left = λ gone l. absurd (omega arith);
          }

    -- what a passed place shows is at most the number that stands for all words
    pub shown_low : length (log_words frames) ≡ len → len < PLACES → (r : ℕ) → r < x.passers
        → shown words r ≤ PASSED_ALL
    shown_low size few r l = grind (arith, common_steps, boundary_low)
