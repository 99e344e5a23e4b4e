-- Laws of one call of the feed over a link that goes by value.
--     run_none, items_run, pass_run, samples_run    octets that are taken at once
--     gives-past, gives-other, gives-behind, gives_at, sample_part, sample-full, sample-row    what an octet gives out
--     turn_none, turn_decided, turn_run, turn_nothing, turn_full, turn_given, turn_after    one turn
--     feed_first, feed_more, feed_last              one turn after another
--     lent_more, lent_last, lent_inside, lent_room, lent_long, lent_less    the same by what is lent
-- Assumes nothing.
use Rattle.std.specs.Prelude.{Result}
use mathlib.Core.Path.{◌≡◌, refl, sym, ap, subst, ◌∙◌}
use mathlib.Core.List.{List, [], ◌∷◌, ◌++◌, append-nil, append_assoc}
use mathlib.Core.Bool.{Bool, true, false}
use Prim.Native.Nat.{ℕ, ◌+◌, ◌-◌, ◌*◌, ◌/◌, ◌≤◌, ◌<◌, min}
use native.Mathlib.Nat.{zero-add}
use native.Mathlib.Decide.{dec_lt}
use native.Mathlib.Omega.{arith}
use borrow.Author.Tests.{lt-ltb, le-ltb, le-leb, lt-leb, eq-eqb, ne_eqb}
use lib.Dec.{ltb, leb, eqb}
use lib.ListN.{length, get_or, take, drop, set, length-append, length-take, length-drop, take-append-drop, drop_of_length-le}
use lib.Seq.{sets, sets-eq, length-sets, take-take, drop-cons, drop-drop, take-append_seam, drop-append_seam}
use Rattle.octets.specs.Pick.{pick, both, either}
use Rattle.octets.proofs.Pick.{pick_cases}
use Rattle.values.specs.Sample.{width_of}
use Rattle.standing.specs.Standing.{octets_limit}
use Rattle.layout.specs.Frame.{width_in}
use Rattle.words.specs.declared.Sampling.{Sampling}
use Rattle.words.specs.Words.{records_in, sampling_of}
use Rattle.dated.specs.Dated.{zero_dated}
use Rattle.walk.specs.declared.Waveform.{Waveform}
use Rattle.walk.specs.Advance.{stand_of}
use Rattle.walking.specs.Steps.{no_waveform}
use Rattle.kept.proofs.Laws.{lent, lent_all}
use Rattle.link.specs.Link as L
use Rattle.link.specs.Link.{Given, is_decided, kept_limit, stepped, gives, gives_in, sample_by, fed_with, given_by, waved}
use Rattle.link.specs.Feed.{Fed, fed, is_head, due, feed_of}
use Rattle.link.specs.Runs.{stops_behind, behind, Leads}
use Rattle.link.proofs.Fed.{true_false}
use Rattle.link.proofs.Runs.{leads-none, feed_steady, feed_stops, feed_full, feed_answered, waved-some}
use Rattle.held.specs.declared.Noted.{Noted}
use Rattle.held.specs.declared.Stage.{Stage}
use Rattle.held.specs.Words.{phase_of}
use Rattle.rows.specs.declared.Spot.{Spot}
use Rattle.rows.specs.declared.Laid.{Laid}
use Rattle.rows.specs.Rows.{row_words, row_of, rows_of, coming_at, given_from, Lays}
use Rattle.ahead.specs.declared.Ahead.{Ahead}
use Rattle.ahead.specs.Ahead.{told_behind, GoesAhead}
use Rattle.lasting.specs.Lasting.{Passes}
use Rattle.arriving.specs.declared.Link.{Link}
use Rattle.arriving.specs.declared.Arrived.{Arrived}
use Rattle.arriving.specs.Arriving.{kept_of, link_by, core, link_with, counted_by, further_by, at_sample, DecidedIn, Steps, noted_in, Known, NotesBy, Notes}
use Rattle.arriving.proofs.Laws.{sample-phase, further_near, one_more, notes_none, notes_then}
use Rattle.turns.specs.declared.Ran.{Ran}
use Rattle.turns.specs.declared.Turned.{Turned}
use Rattle.turns.specs.declared.Gave.{Gave}
use Rattle.turns.specs.Turns.{ran, no_run, link_ran, Rows, Runs, RunsOn, AtSamples, GivesIn, GivesBy, sample_given_by, HeadIn, StopsIn, OctetOn, goes_on, room_in, Turns, Feeds}

-- ---- rows

rows_none : (d : List ℕ) → Rows [] 0 d d
unfolding rows_of
rows_none d = record { many = refl; room = omega arith; is = refl }

rows-room : (n k : ℕ) → n * row_words ≤ k → n ≤ k / row_words
rows-room n k h = omega arith

-- The buffer is as long as it was.
pub rows-kept : {g : List Given} {n : ℕ} {d e : List ℕ} → Rows g n d e → length e ≡ length d
rows-kept {g} {d = d} r = ap length r.is ∙ length-sets d 0 (rows_of g)

-- Rows that fit are no more than there is room for.
rows_fit : {g : List Given} {n : ℕ} {d e : List ℕ} → Rows g n d e → length g ≤ room_in d
rows_fit {n = n} {d} r = omega (arith, r.many, rows-room n (length d) r.room)

nothing_given : (g : List Given) → length g ≡ 0 → g ≡ []
nothing_given [] e = refl
nothing_given (x ∷ g) e = let z : ⊥ = omega arith in absurd z

-- ---- octets that are taken at once

module _ (x : Link) (p t u d : List ℕ) where
  pub run_none : {r : Ran} → r ≡ no_run x p → Runs x p t u d r t d
  run_none e = subst (λ (k : Ran). Runs x p t u d k t d) (sym e) (record { notes = notes_none x (x.core.count + 0) (omega arith); samples = []; inside = omega arith; rows = rows_none d; long = refl; leads = leads-none (link_by x p t) })

  pub run_on : {r : Ran} {v : List ℕ} → RunsOn x p t u r v → Runs x p t u d r v d
  run_on r =
      record { notes = r.notes; samples = []; inside = r.inside; rows = subst (λ (k : ℕ). Rows [] k d d) (sym r.none) (rows_none d); long = r.long; leads = r.leads }

  pub pass_run : {r : Ran} → Passes x p u (record { link = r.link; octets = r.octets; taken = r.taken }) → r.given ≡ 0 → Runs x p t u d r t d
  pass_run {r} a e = run_on (record { notes = a.notes; inside = a.there; none = e; long = refl; leads = a.leads t })

module _ (x : Link) (p t u : List ℕ) where
  pub items-none : {r : Ran} → r ≡ no_run x p → RunsOn x p t u r t
  items-none e = subst (λ (k : Ran). RunsOn x p t u k t) (sym e) (record { notes = notes_none x (x.core.count + 0) (omega arith); inside = omega arith; none = refl; long = refl; leads = leads-none (link_by x p t) })

  pub items_run : {a : Ahead} {v : List ℕ} {f : Waveform} → x.core.stage ≡ Stage.Head → x.core.held ≡ 0 → x.head.cursor.at ≡ x.core.count → GoesAhead u x.head x.core.around t a v → f ≡ told_behind a.taken x.frame
      → RunsOn x p t u (ran (link_with (core a.head.cursor.at a.around 0 Stage.Head) a.head f) p a.taken 0) v
  items_run {a} {v} {f} es eh ec g ef =
      let from : L.link x.head.cursor.at (stand_of x.head t) x.core.around x.frame (L.head []) ≡ link_by x p t =
      λ i. L.link (ec i) (stand_of x.head t) x.core.around x.frame (phase_of (sym es i) (take (min (sym eh i) kept_limit) p)) in
      let to : L.link (x.head.cursor.at + a.taken) (stand_of a.head v) a.around (told_behind a.taken x.frame) (L.head []) ≡ link_by (link_with (core a.head.cursor.at a.around 0 Stage.Head) a.head f) p v =
      λ i. L.link (sym g.place i) (stand_of a.head v) a.around (sym ef i) (L.head []) in
      record {
        notes = subst (λ (k : Stage). NotesBy (x.core.count + 1) (x.core.count + a.taken) k (link_with (core a.head.cursor.at a.around 0 Stage.Head) a.head f)) (sym es) tt;
        inside = g.inside;
        none = refl;
        long = g.long;
        leads = subst (λ (m : L.Link). Leads (link_by x p t) (take a.taken u) m []) to (subst (λ (l : L.Link). Leads l (take a.taken u) (L.link (x.head.cursor.at + a.taken) (stand_of a.head v) a.around (told_behind a.taken x.frame) (L.head [])) []) from (g.leads x.frame));
      }

module _ (x : Link) (p t u d : List ℕ) (left : ℕ) (at : Spot) (here : AtSamples x left at) where
  pub samples-none : (part : List ℕ) {l : Laid} {e : List ℕ} {r : Ran} → Lays t x.frame at x.core.count part d l e → l.given ≡ 0 → r ≡ no_run x p → Runs x p t u d r t e
  unfolding rows_of
  samples-none part {r = r} q z f =
      let none = nothing_given q.laying.samples (q.laying.given ∙ z) in
      subst (λ (b : List ℕ). Runs x p t u d r t b) (sym (q.laying.rows ∙ ap (λ (g : List Given). sets d 0 (rows_of g)) none)) (run_none x p t u d f)

  pub samples_run : {k : ℕ} (part : List ℕ) {l : Laid} {e : List ℕ} {y z : Link} → k ≡ min left (length u) → part ≡ take k u → Lays t x.frame at x.core.count part d l e → (l.given ≡ 0 → ⊥)
      → y ≡ further_by l.taken 0 Stage.Head x → z ≡ at_sample (left - l.taken) l.at 0 y → Runs x p t u d (ran z p l.taken l.given) t e
  samples_run {k} part {l} {e} {y} {z} ek ep r some ey ez = by (dec_lt octets_limit (x.core.count + length part))
    where
      long : length part ≡ min left (length u)
      long = ap length ep ∙ length-take k u ∙ omega (arith, ek)

      go : x.core.count + length part ≤ octets_limit → Runs x p t u d (ran z p l.taken l.given) t e
      go near =
          let q = r.laying in
          let few = q.within in
          let st = stand_of x.head t in
          let from : L.link x.core.count st x.core.around x.frame (waved left (coming_at at [])) ≡ link_by x p t =
          ap (L.link x.core.count st x.core.around x.frame) (waved-some left (coming_at at []) here.some)
          ∙ (λ i. L.link x.core.count st x.core.around x.frame (phase_of (sym here.stage i) (take (min (sym here.held i) kept_limit) p))) in
          let end = L.link (x.core.count + l.taken) st x.core.around x.frame (waved (left - l.taken) (coming_at l.at [])) in
          let to : end ≡ link_by z p t =
          sym (ap (λ (w : Link). link_by w p t) ez ∙ sample-phase y (left - l.taken) l.at 0 p p t
          ∙ ap (λ (w : Link). L.in_phase (waved (left - l.taken) (coming_at l.at [])) (link_by w p t)) (ey ∙ further_near x l.taken 0 Stage.Head (omega (arith, few, near)))) in
          let octets : take l.taken part ≡ take l.taken u = ap (take l.taken) ep ∙ take-take l.taken k u (omega (arith, ek, few, long)) in
          record {
            notes = subst (λ (k : Stage). NotesBy (x.core.count + 1) (x.core.count + l.taken) k z) (sym here.stage) (subst (λ (k : Link). Known (noted_in k.core.stage)) (sym ez) (pick_cases (λ (k : Link). Known (noted_in k.core.stage)) (eqb (left - l.taken) 0) (λ _. tt) (λ _. tt)));
            samples = q.samples;
            inside = omega (arith, few, long);
            rows = record { many = q.given; room = omega (arith, q.room); is = q.rows };
            long = refl;
            leads = subst (λ (m : L.Link). Leads (link_by x p t) (take l.taken u) m q.samples) to
                (subst (λ (w : List ℕ). Leads (link_by x p t) w end q.samples) octets
                (subst (λ (m : L.Link). Leads m (take l.taken part) end q.samples) from (q.leads st refl x.core.around left (omega (arith, long)) near)));
          }

      by : Dec (octets_limit < x.core.count + length part) → Runs x p t u d (ran z p l.taken l.given) t e
      by (yes h) = absurd (some (ap (λ (w : Laid). w.given) (r.past h)))
      by (no h) = go (omega (arith, h))

pub told_none : (n : ℕ) (v : Waveform) → n ≡ 0 → v ≡ told_behind n v
told_none n v z = sym (ap (λ (b : Bool). pick b v no_waveform) (eq-eqb n 0 z))

pub told_some : (n : ℕ) (v : Waveform) {w : Waveform} → (n ≡ 0 → ⊥) → w ≡ no_waveform → w ≡ told_behind n v
told_some n v z e = e ∙ sym (ap (λ (b : Bool). pick b v no_waveform) (ne_eqb n 0 z))

-- ---- what an octet gives out

module _ (x : Link) (p t : List ℕ) (b : ℕ) where
  abbrev here : L.Link
  here = link_by x p t

  abbrev gives_with : Bool → List Given → List Given
  gives_with h g = pick h [] g

  pub gives-past : octets_limit ≤ x.core.count → gives here b ≡ []
  unfolding gives
  gives-past h = ap (λ (k : Bool). gives_with k (gives_in b here.phase (L.counted here))) (le-leb octets_limit x.core.count h)

  gives_in_lem : x.core.count < octets_limit → {s : Stage} → x.core.stage ≡ s → gives here b ≡ gives_in b (phase_of s (kept_of x p)) (link_by (counted_by x) p t)
  unfolding gives
  gives_in_lem h e =
      ap (λ (k : Bool). gives_with k (gives_in b here.phase (link_by (counted_by x) p t))) (lt-leb octets_limit x.core.count h)
      ∙ ap (λ (k : Stage). gives_in b (phase_of k (kept_of x p)) (link_by (counted_by x) p t)) e

  module _ (h : x.core.count < octets_limit) where
    pub gives_head : x.core.stage ≡ Stage.Head → gives here b ≡ []
    unfolding gives_in
    gives_head e = gives_in_lem h e

    pub gives-value : (tag left : ℕ) → x.core.stage ≡ Stage.Value tag left → gives here b ≡ []
    unfolding gives_in
    gives-value tag left e = gives_in_lem h e

    pub gives-waits : (left : ℕ) (r : Noted) → x.core.stage ≡ Stage.Waits left r → gives here b ≡ []
    unfolding gives_in
    gives-waits left r e = gives_in_lem h e

    pub gives-decided : (a : Result ℕ Noted) → x.core.stage ≡ Stage.Decided a → gives here b ≡ []
    unfolding gives_in
    gives-decided a e = gives_in_lem h e

    module _ (left : ℕ) (at : Spot) (e : x.core.stage ≡ Stage.Waveform left at.sequence at.channel at.index) where
      gives_by : (k : Bool) → ltb at.sequence x.frame.sequences ≡ k → gives here b ≡ pick k (sample_given_by x p t b at) []
      unfolding gives_in
      gives_by k f = gives_in_lem h e ∙ ap (λ (z : Bool). pick z (sample_given_by x p t b at) []) f

      pub gives-behind : x.frame.sequences ≤ at.sequence → gives here b ≡ []
      gives-behind k = gives_by false (le-ltb at.sequence x.frame.sequences k)

      pub gives_at : at.sequence < x.frame.sequences → gives here b ≡ sample_given_by x p t b at
      gives_at k = gives_by true (lt-ltb at.sequence x.frame.sequences k)

-- As an answer of the code.
pub gives_as : {g h : List Given} {d e : List ℕ} {k : Gave} → g ≡ h → GivesBy h d k e → GivesBy g d k e
gives_as {d = d} {e} {k} f q = subst (λ (w : List Given). GivesBy w d k e) (sym f) q

pub gives_nothing : {g : List Given} {d : List ℕ} → g ≡ [] → GivesBy g d Gave.Nothing d
gives_nothing f = record { is = (f, refl) }

pub gives-full : {g : List Given} {x : Given} {d : List ℕ} → g ≡ x ∷ [] → length d < row_words → GivesBy g d Gave.Full d
gives-full f h = record { is = (ap length f, h, refl) }

-- The sample at hand.
module _ (x : Link) (p t : List ℕ) (b : ℕ) (at : Spot) {n : ℕ} {c : Sampling} (en : n ≡ min x.core.held kept_limit) (long : kept_limit < length p) (ec : c ≡ sampling_of (get_or (records_in t) at.channel zero_dated).settings) where
  abbrev octets : List ℕ
  octets = kept_of x p ++ (b ∷ [])

  abbrev wide : ℕ
  wide = width_in (get_or (records_in t) at.channel zero_dated).settings

  abbrev sample : Given
  sample = given_from (records_in t) x.frame.little (x.core.count + 1) (coming_at at []) octets

  many-octets : length octets ≡ n + 1
  many-octets = length-append (kept_of x p) (b ∷ []) ∙ (let e = length-take (min x.core.held kept_limit) p in omega (arith, e))

  width_is : {w : ℕ} → w ≡ width_of c.datatype → w ≡ wide
  width_is e = e ∙ ap (λ (s : Sampling). width_of s.datatype) ec

  sample_by_lem : (k : Bool) → ltb (length octets) wide ≡ k → sample_given_by x p t b at ≡ pick k [] (sample ∷ [])
  unfolding sample_by
  sample_by_lem k e = ap (λ (z : Bool). pick z [] (sample ∷ [])) e

  module _ {w : ℕ} (ew : w ≡ width_of c.datatype) where
    pub sample_part : n + 1 < w → sample_given_by x p t b at ≡ []
    sample_part h = sample_by_lem true (lt-ltb (length octets) wide (omega (arith, many-octets, width_is ew)))

    pub sample-whole : w ≤ n + 1 → sample_given_by x p t b at ≡ sample ∷ []
    sample-whole h = sample_by_lem false (le-ltb (length octets) wide (omega (arith, many-octets, width_is ew)))

    pub sample-row : {part d e : List ℕ} → w ≤ n + 1 → row_words ≤ length d → part ≡ take (n + 1) (set p n b)
        → e ≡ pick (leb row_words (length d)) (sets d 0 (row_of (given_from (records_in t) x.frame.little (x.core.count + 1) (coming_at at []) part))) d
        → GivesBy (sample_given_by x p t b at) d Gave.Given e
    unfolding rows_of
    sample-row {part} {d} {e} h room ep ee =
        let same = ep ∙ one_more p n b (omega arith) ∙ ap (λ (k : ℕ). take k p ++ (b ∷ [])) en in
        let row = ee ∙ (λ i. pick (le-leb row_words (length d) room i) (sets d 0 (row_of (given_from (records_in t) x.frame.little (x.core.count + 1) (coming_at at []) (same i)))) d) in
        gives_as (sample-whole h) (record { is = record { many = refl; room = omega arith; is = row ∙ ap (sets d 0) (sym (append-nil (row_of sample))) } })

-- ---- where a call stops

module _ (s : Stage) (y : Link) where
  abbrev stops_by : Bool → Bool → Bool → Bool
  stops_by d h c = either d (both h c)

  pub stops-decided : {k : Bool} → DecidedIn y.core.stage k → k ≡ true → StopsIn s y true
  stops-decided f z p q = sym (ap (λ (b : Bool). stops_by b (is_head (phase_of s p)) (ltb 0 y.frame.channels)) (sym (f q) ∙ z))

  module _ {k h : Bool} (f : DecidedIn y.core.stage k) (z : k ≡ false) (g : HeadIn s h) where
    pub stops_told : h ≡ true → {c : Bool} → c ≡ ltb 0 y.frame.channels → StopsIn s y c
    stops_told e w p q = w ∙ sym (λ i. stops_by ((sym (f q) ∙ z) i) ((sym (g p) ∙ e) i) (ltb 0 y.frame.channels))

    pub stops-not : h ≡ false → StopsIn s y h
    stops-not e p q = e ∙ sym (λ i. stops_by ((sym (f q) ∙ z) i) ((sym (g p) ∙ e) i) (ltb 0 y.frame.channels))

-- ---- one turn

nothing : (u : List ℕ) → length u ≡ 0 → u ≡ []
nothing [] e = refl
nothing (b ∷ u) e = let z : ⊥ = omega arith in absurd z

-- Octets behind none of which it stops.
leads_feed : {l m : L.Link} {g : List Given} (room k : ℕ) (u : List ℕ) → length g ≤ room → Leads l (take k u) m g → k ≤ length u → feed_of room l u ≡ behind k g (feed_of (room - length g) m (drop k u))
leads_feed {l} {m} {g} room k u h q i =
    let long : length (take k u) ≡ k = length-take k u ∙ omega arith in
    ap (feed_of room l) (sym (take-append-drop k u))
    ∙ feed_steady room l (take k u) (drop k u) q.steady (subst (λ (w : List Given). length w ≤ room) (sym q.given) h)
    ∙ (λ j. behind (long j) (q.given j) (feed_of (room - length (q.given j)) (q.link j) (drop k u)))

module _ (x : Link) (p t u d : List ℕ) where
  abbrev stopped : Ran → Turned
  stopped r = record { ran = r; stops = true }

  stop-here : {r : Ran} → r ≡ no_run x p → feed_of (room_in d) (link_by x p t) u ≡ fed 0 (link_by x p t) [] → Turns x p t u d (stopped r) t d
  stop-here {r} e f =
      subst (λ (k : Ran). Turns x p t u d (stopped k) t d) (sym e)
      (record { notes = notes_none x (x.core.count + 0) (omega arith); samples = []; inside = omega arith; rows = rows_none d; long = refl; some = λ z. absurd (true_false z); same = f })

  pub turn_none : {r : Ran} → r ≡ no_run x p → length u ≡ 0 → Turns x p t u d (stopped r) t d
  unfolding feed_of
  turn_none e z = stop-here e (ap (feed_of (room_in d) (link_by x p t)) (nothing u z))

  pub turn_decided : {r : Ran} {k : Bool} → r ≡ no_run x p → DecidedIn x.core.stage k → k ≡ true → Turns x p t u d (stopped r) t d
  turn_decided e f z = stop-here e (feed_answered (room_in d) (link_by x p t) u (sym (f (kept_of x p)) ∙ z))

  pub turn_run : {r : Ran} {v e : List ℕ} → Runs x p t u d r v e → 0 < r.taken → Turns x p t u d (record { ran = r; stops = false }) v e
  turn_run {r} q h =
      record {
        notes = q.notes;
        samples = q.samples;
        inside = q.inside;
        rows = q.rows;
        long = q.long;
        some = λ _. h;
        same = leads_feed (room_in d) r.taken u (rows_fit q.rows) q.leads q.inside;
      }

  -- Behind nothing it is as before.
  pub still_goes : {r : Ran} {v e : List ℕ} {k : Bool} → Runs x p t u d r v e → r.taken ≡ 0 → DecidedIn x.core.stage k → k ≡ false → is_decided (link_by r.link r.octets v).phase ≡ false
  unfolding fed_with
  still_goes {r} {v} q z f w =
      let l = subst (λ (n : ℕ). Leads (link_by x p t) (take n u) (link_ran r v) q.samples) z q.leads in
      ap (λ (y : L.Link). is_decided y.phase) (sym l.link) ∙ sym (f (kept_of x p)) ∙ w

  pub turn_after : {r : Ran} {v e : List ℕ} {k : Turned} {v' e' : List ℕ} → Runs x p t u d r v e → r.taken ≡ 0 → Turns r.link r.octets v u e k v' e' → Turns x p t u d k v' e'
  turn_after {r} {v} {e} {k} {v'} {e'} q z w =
      let none = still q z in
      let buffer : e ≡ d = none.1 in
      subst (λ (a : List ℕ). Turns x p t u a k v' e') buffer
      (record {
        notes = notes-after w.notes;
        samples = w.samples;
        inside = w.inside;
        rows = w.rows;
        long = w.long ∙ q.long;
        some = w.some;
        same = ap (λ (l : L.Link). feed_of (room_in e) l u) none.0 ∙ w.same;
      })
    where
      notes-after : Notes r.link k.ran.taken k.ran.link → Notes x k.ran.taken k.ran.link
      notes-after h =
          let n : x.core.count + (0 + k.ran.taken) ≡ x.core.count + k.ran.taken = omega arith in
          let first = subst (λ (m : ℕ). Notes x m r.link) z q.notes in
          subst (λ (m : ℕ). NotesBy (x.core.count + 1) m x.core.stage k.ran.link) n (notes_then x r.link k.ran.link 0 k.ran.taken first h)

      still : Runs x p t u d r v e → r.taken ≡ 0 → (link_by x p t ≡ link_ran r v) × (e ≡ d)
      still q z = unfold fed_with given_by rows_of in
          let w = subst (λ (n : ℕ). Leads (link_by x p t) (take n u) (link_ran r v) q.samples) z q.leads in
          (w.link, q.rows.is ∙ ap (λ (g : List Given). sets d 0 (rows_of g)) (sym w.given))

  -- The octet at the front.
  module _ (b : ℕ) (eb : b ≡ get_or u 0 0) (some : 0 < length u) (goes : is_decided (link_by x p t).phase ≡ false) where
    front : u ≡ b ∷ drop 1 u
    front = drop-cons u 0 0 some ∙ ap (λ (k : ℕ). k ∷ drop 1 u) (sym eb)

    module _ {a : Arrived} {v e : List ℕ} {n : ℕ} {k : Bool} (s : Steps x p t b a v) (r : Rows (gives (link_by x p t) b) n d e) (f : StopsIn x.core.stage a.link k) where
      after : link_by a.link a.octets v ≡ stepped (link_by x p t) b
      after = s.same

      stops-is : k ≡ stops_behind (link_by x p t) b
      unfolding due
      stops-is =
          f (kept_of x p) (kept_of a.link a.octets)
          ∙ (λ i. either (is_decided (after i).phase) (both (is_head (link_by x p t).phase) (ltb 0 (after i).frame.channels)))

      one_leads : k ≡ false → Leads (link_by x p t) (b ∷ []) (link_by a.link a.octets v) (gives (link_by x p t) b)
      unfolding fed_with given_by
      one_leads z = record { steady = (goes, sym stops-is ∙ z, tt); link = sym after; given = append-nil (gives (link_by x p t) b) }

      on_by : (j : Bool) → k ≡ j → feed_of (room_in d) (link_by x p t) u ≡ behind 1 (gives (link_by x p t) b) (goes_on j (room_in d - length (gives (link_by x p t) b)) (link_by a.link a.octets v) (drop 1 u))
      on_by true z =
          ap (feed_of (room_in d) (link_by x p t)) front
          ∙ feed_stops (room_in d) (link_by x p t) b (drop 1 u) goes (rows_fit r) (sym stops-is ∙ z)
          ∙ (λ i. fed 1 (sym after i) (sym (append-nil (gives (link_by x p t) b)) i))
      on_by false z =
          leads_feed (room_in d) 1 u (rows_fit r) (subst (λ (w : List ℕ). Leads (link_by x p t) w (link_by a.link a.octets v) (gives (link_by x p t) b)) (sym (ap (take 1) front)) (one_leads z)) some

      octet_turn : Turns x p t u d (record { ran = ran a.link a.octets 1 n; stops = k }) v e
      octet_turn = record { notes = s.notes; samples = gives (link_by x p t) b; inside = some; rows = r; long = s.long; some = λ _. omega arith; same = on_by k refl }

    turn_by : {r : Turned} {v e : List ℕ} (n : ℕ) → OctetOn x p t b n r v → Rows (gives (link_by x p t) b) n d e → Turns x p t u d r v e
    turn_by {r} {v} {e} n o q =
        subst (λ (k : Turned). Turns x p t u d k v e)
        (λ i. record { ran = ran r.ran.link r.ran.octets (sym o.taken i) (sym o.given i); stops = r.stops })
        (octet_turn o.steps q o.stops)

    pub turn_nothing : {r : Turned} {k : Gave} {v e : List ℕ} → k ≡ Gave.Nothing → GivesBy (gives (link_by x p t) b) d k e → OctetOn x p t b 0 r v → Turns x p t u d r v e
    turn_nothing {r} {k} {v} {e} z g o =
        let q = subst (λ (w : Gave). GivesIn (gives (link_by x p t) b) d w e) z g.is in
        subst (Turns x p t u d r v) (sym q.1) (turn_by 0 o (subst (λ (w : List Given). Rows w 0 d d) (sym q.0) (rows_none d)))

    pub turn_given : {r : Turned} {k : Gave} {v e : List ℕ} → k ≡ Gave.Given → GivesBy (gives (link_by x p t) b) d k e → OctetOn x p t b 1 r v → Turns x p t u d r v e
    turn_given {k = k} {e = e} z g o = turn_by 1 o (subst (λ (w : Gave). GivesIn (gives (link_by x p t) b) d w e) z g.is)

    pub turn_full : {r : Ran} {k : Gave} {e : List ℕ} → k ≡ Gave.Full → GivesBy (gives (link_by x p t) b) d k e → r ≡ no_run x p → Turns x p t u d (stopped r) t e
    turn_full {r} {k} {e} z g f =
        let q = subst (λ (w : Gave). GivesIn (gives (link_by x p t) b) d w e) z g.is in
        let none : room_in d < length (gives (link_by x p t) b) = omega (arith, q.0, q.1) in
        subst (Turns x p t u d (stopped r) t) (sym q.2)
        (stop-here f (ap (feed_of (room_in d) (link_by x p t)) front ∙ feed_full (room_in d) (link_by x p t) b (drop 1 u) goes none))

-- ---- one turn after another

-- How far a call has come.
pub record Feeding (x : Link) (p t s d : List ℕ) (y : Link) (q : List ℕ) (taken given : ℕ) (v e : List ℕ) : Type 0 where
  pub notes : Notes x taken y
  pub samples : List Given
  pub inside : taken ≤ length s
  pub rows : Rows samples given d e
  pub long : length v ≡ length t
  pub same : feed_of (room_in d) (link_by x p t) s ≡ behind taken samples (feed_of (room_in d - given) (link_by y q v) (drop taken s))

pub feed_first : (x : Link) (p t s d : List ℕ) → Feeding x p t s d x p 0 0 t d
feed_first x p t s d =
    let k : room_in d - 0 ≡ room_in d = omega arith in
    let f = feed_of (room_in d) (link_by x p t) s in
    record {
      notes = notes_none x (x.core.count + 0) (omega arith);
      samples = [];
      inside = omega arith;
      rows = rows_none d;
      long = refl;
      same = (λ i. fed (sym (zero-add f.taken) i) f.link f.given) ∙ ap (λ (r : ℕ). behind 0 [] (feed_of r (link_by x p t) s)) (sym k);
    }

-- The rows of samples are six words each.
rows_long : (g : List Given) → length (rows_of g) ≡ length g * row_words
unfolding rows_of
rows_long [] = refl
rows_long (x ∷ g) = omega (arith, rows_long g)

rows_both : (g h : List Given) → rows_of (g ++ h) ≡ rows_of g ++ rows_of h
unfolding rows_of
rows_both [] h = refl
rows_both (x ∷ g) h = ap (λ (w : List ℕ). row_of x ++ w) (rows_both g h)

-- Stored at the front.
at_front : (d w : List ℕ) → length w ≤ length d → sets d 0 w ≡ w ++ drop (length w) d
at_front d w h = sets-eq w d 0 (omega arith) ∙ ap (λ (k : ℕ). w ++ drop k d) (zero-add (length w))

room_less : (k n : ℕ) → (k - n * row_words) / row_words ≡ k / row_words - n
room_less k n = omega arith

module _ {g h : List Given} {n m at : ℕ} {d e f : List ℕ} (r : Rows g n d e) (ea : at ≡ n * row_words) (q : Rows h m (drop at e) f) where
  stored : length (rows_of g) ≡ at
  stored = rows_long g ∙ ap (λ (k : ℕ). k * row_words) r.many ∙ sym ea

  before : e ≡ rows_of g ++ drop at d
  before = r.is ∙ at_front d (rows_of g) (omega (arith, stored, ea, r.room)) ∙ ap (λ (k : ℕ). rows_of g ++ drop k d) stored

  rest : drop at e ≡ drop at d
  rest = ap (drop at) before ∙ ap (λ (k : ℕ). drop k (rows_of g ++ drop at d)) (sym stored) ∙ drop-append_seam (rows_of g) (drop at d)

  more : length (rows_of h) ≡ m * row_words
  more = rows_long h ∙ ap (λ (k : ℕ). k * row_words) q.many

  room-left : m * row_words ≤ length d - at
  room-left = subst (λ (k : ℕ). m * row_words ≤ k) (ap length rest ∙ length-drop at d) q.room

  pub rows_join : Rows (g ++ h) (n + m) d (take at e ++ f)
  rows_join =
      let both_long : length (rows_of g ++ rows_of h) ≡ at + m * row_words = length-append (rows_of g) (rows_of h) ∙ omega (arith, stored, more) in
      let behind-is : f ≡ rows_of h ++ drop (at + m * row_words) d =
      q.is ∙ ap (λ (w : List ℕ). sets w 0 (rows_of h)) rest ∙ at_front (drop at d) (rows_of h) (omega (arith, more, room-left, length-drop at d))
      ∙ ap (λ (k : ℕ). rows_of h ++ drop k (drop at d)) more ∙ ap (λ (w : List ℕ). rows_of h ++ w) (drop-drop (m * row_words) at d) in
      let front_is : take at e ≡ rows_of g = ap (take at) before ∙ ap (λ (k : ℕ). take k (rows_of g ++ drop at d)) (sym stored) ∙ take-append_seam (rows_of g) (drop at d) in
      record {
        many = length-append g h ∙ (λ i. r.many i + q.many i);
        room = omega (arith, r.room, room-left, ea);
        is = (λ i. front_is i ++ behind-is i) ∙ sym (append_assoc (rows_of g) (rows_of h) (drop (at + m * row_words) d))
            ∙ sym (ap (sets d 0) (rows_both g h) ∙ at_front d (rows_of g ++ rows_of h) (omega (arith, both_long, ea, r.room, room-left)) ∙ ap (λ (k : ℕ). (rows_of g ++ rows_of h) ++ drop k d) both_long);
      }

  -- The room that is left.
  pub room-is : room_in (drop at e) ≡ room_in d - n
  room-is = ap (λ (k : ℕ). k / row_words) (ap length rest ∙ length-drop at d ∙ ap (λ (k : ℕ). length d - k) ea) ∙ room_less (length d) n

behind_twice : (n m : ℕ) (g h : List Given) (f : Fed) → behind n g (behind m h f) ≡ behind (n + m) (g ++ h) f
behind_twice n m g h f = let k : n + (m + f.taken) ≡ n + m + f.taken = omega arith in λ i. fed (k i) f.link (sym (append_assoc g h f.given) i)

module _ {x : Link} {p t s d : List ℕ} {y : Link} {q : List ℕ} {taken given : ℕ} {v e : List ℕ} {at : ℕ} {k : Turned} {v' f : List ℕ} (g : Feeding x p t s d y q taken given v e) (ea : at ≡ given * row_words) (w : Turns y q v (drop taken s) (drop at e) k v' f) where
  abbrev all : List Given
  all = g.samples ++ w.samples

  joined : Rows all (given + k.ran.given) d (take at e ++ f)
  joined = rows_join g.rows ea w.rows

  inside-all : taken + k.ran.taken ≤ length s
  inside-all = omega (arith, g.inside, w.inside, length-drop taken s)

  notes-all : Notes x (taken + k.ran.taken) k.ran.link
  notes-all = notes_then x y k.ran.link taken k.ran.taken g.notes w.notes

  left-room : room_in (drop at e) - length w.samples ≡ room_in d - (given + k.ran.given)
  left-room = omega (arith, room-is g.rows ea w.rows, w.rows.many)

  on-all : feed_of (room_in d) (link_by x p t) s ≡ behind (taken + k.ran.taken) all (goes_on k.stops (room_in d - (given + k.ran.given)) (link_ran k.ran v') (drop (taken + k.ran.taken) s))
  on-all =
      g.same
      ∙ ap (λ (r : ℕ). behind taken g.samples (feed_of r (link_by y q v) (drop taken s))) (sym (room-is g.rows ea w.rows))
      ∙ ap (behind taken g.samples) w.same
      ∙ behind_twice taken k.ran.taken g.samples w.samples (goes_on k.stops (room_in (drop at e) - length w.samples) (link_ran k.ran v') (drop k.ran.taken (drop taken s)))
      ∙ (λ i. behind (taken + k.ran.taken) all (goes_on k.stops (left-room i) (link_ran k.ran v') (drop-drop k.ran.taken taken s i)))

  pub feed_more : k.stops ≡ false → Feeding x p t s d k.ran.link k.ran.octets (taken + k.ran.taken) (given + k.ran.given) v' (take at e ++ f)
  feed_more z =
      record {
        notes = notes-all;
        samples = all;
        inside = inside-all;
        rows = joined;
        long = w.long ∙ g.long;
        same = on-all ∙ ap (λ (b : Bool). behind (taken + k.ran.taken) all (goes_on b (room_in d - (given + k.ran.given)) (link_ran k.ran v') (drop (taken + k.ran.taken) s))) z;
      }

  pub feed_last : k.stops ≡ true → Feeds x p t s d (ran k.ran.link k.ran.octets (taken + k.ran.taken) (given + k.ran.given)) v' (take at e ++ f)
  feed_last z =
      let n = taken + k.ran.taken in
      let zero_more : n + 0 ≡ n = omega arith in
      let is : feed_of (room_in d) (link_by x p t) s ≡ fed n (link_ran k.ran v') all =
      on-all ∙ ap (λ (b : Bool). behind n all (goes_on b (room_in d - (given + k.ran.given)) (link_ran k.ran v') (drop n s))) z
      ∙ (λ i. fed (zero_more i) (link_ran k.ran v') (append-nil all i)) in
      record {
        notes = notes-all;
        same = (λ i. fed n (link_ran k.ran v') (is i).given) ∙ sym is;
        rows = subst (λ (b : List Given). Rows b (given + k.ran.given) d (take at e ++ f)) (sym (ap (λ (r : Fed). r.given) is)) joined;
        long = w.long ∙ g.long;
      }

-- ---- parts of the caller's octets and buffer

-- A part to the end is lent, and what it then is stands in its place.
abbrev given_back : ℕ → List ℕ → List ℕ → List ℕ
given_back at e f = take at e ++ (f ++ drop (length e - at) (drop at e))

back_is : (at : ℕ) (e f : List ℕ) → given_back at e f ≡ take at e ++ f
back_is at e f =
    let none : drop (length e - at) (drop at e) ≡ [] = (let h : length (drop at e) ≤ length e - at = omega (arith, length-drop at e) in drop_of_length-le (drop at e) h) in
    ap (λ (w : List ℕ). take at e ++ (f ++ w)) none ∙ ap (λ (w : List ℕ). take at e ++ w) (append-nil f)

module _ {x : Link} {p t s d : List ℕ} {y : Link} {q : List ℕ} {taken given : ℕ} {v e : List ℕ} {k : Turned} {v' f : List ℕ} (g : Feeding x p t s d y q taken given v e) (w : Turns y q v (lent taken s) (lent (given * row_words) e) k v' f) where
  abbrev at : ℕ
  at = given * row_words

  whole : Turns y q v (drop taken s) (drop at e) k v' f
  whole = subst (λ (b : List ℕ). Turns y q v (drop taken s) b k v' f) (lent_all at e) (subst (λ (b : List ℕ). Turns y q v b (lent at e) k v' f) (lent_all taken s) w)

  pub lent_more : k.stops ≡ false → Feeding x p t s d k.ran.link k.ran.octets (taken + k.ran.taken) (given + k.ran.given) v' (given_back at e f)
  lent_more z = subst (Feeding x p t s d k.ran.link k.ran.octets (taken + k.ran.taken) (given + k.ran.given) v') (sym (back_is at e f)) (feed_more g refl whole z)

  pub lent_last : k.stops ≡ true → Feeds x p t s d (ran k.ran.link k.ran.octets (taken + k.ran.taken) (given + k.ran.given)) v' (given_back at e f)
  lent_last z = subst (Feeds x p t s d (ran k.ran.link k.ran.octets (taken + k.ran.taken) (given + k.ran.given)) v') (sym (back_is at e f)) (feed_last g refl whole z)

  pub lent_inside : taken + k.ran.taken ≤ length s
  lent_inside = inside-all g refl whole

  pub lent_room : (given + k.ran.given) * row_words ≤ length d
  lent_room = (joined g refl whole).room

  pub lent_long : length (given_back at e f) ≡ length d
  lent_long = ap length (back_is at e f) ∙ rows-kept (joined g refl whole)

  pub lent_less : k.stops ≡ false → length s - (taken + k.ran.taken) < length s - taken
  lent_less z = omega (arith, whole.some z, lent_inside)
