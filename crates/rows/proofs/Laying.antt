-- Rows laid one behind the other.
--     laying-none     before the first one
--     laying-more     one sample more
--     laying-long     the buffer's length
--     onward-none, onward-more, tests_true, tests_false    the same behind others, by what the code reads and tests
--     lays_past, lays_all    what was laid in the end
-- Assumes nothing.
use Prim.Native.Nat.{ℕ, suc, ◌+◌, ◌-◌, ◌*◌, ◌≤◌, ◌<◌}
use mathlib.Core.Path.{◌≡◌, refl, sym, ◌∙◌, ap, subst}
use mathlib.Core.List.{List, [], ◌∷◌, ◌++◌}
use mathlib.Core.Bool.{Bool, true, false}
use native.Mathlib.Omega.{arith}
use borrow.Author.Tests.{ltb-true, leb-true}
use lib.Dec.{ltb, leb}
use lib.ListN.{length, get_or, take, drop, set, length-append, length-take, length-drop}
use lib.Seq.{sets, length-sets, take-add}
use Rattle.octets.specs.Pick.{both}
use Rattle.octets.specs.Number.{number_of}
use Rattle.octets.proofs.Pick.{both_split}
use Rattle.values.specs.Sample.{width_of}
use Rattle.values.proofs.Laws.{width_le}
use Rattle.settings.specs.declared.Settings.{Settings}
use Rattle.dated.specs.declared.Dated.{Dated}
use Rattle.dated.specs.Dated.{zero_dated}
use Rattle.layout.specs.Frame.{width_in}
use Rattle.standing.specs.Standing.{octets_limit}
use Rattle.words.specs.declared.Sampling.{Sampling}
use Rattle.words.specs.Words.{records_in, sampling_of}
use Rattle.walk.specs.declared.Waveform.{Waveform}
use Rattle.walk.specs.Advance.{Stand}
use Rattle.link.specs.Link.{Given, Link, link, waved, next_coming}
use Rattle.link.specs.Runs.{Leads}
use Rattle.rows.specs.declared.Spot.{Spot}
use Rattle.rows.specs.declared.Laid.{Laid}
use Rattle.rows.specs.Rows.{row_words, row_of, rows_of, coming_at, laid, width_at, lays_at, Laying, Lays}
use Rattle.rows.specs.Laying.{given_at, Onward}
use Rattle.rows.proofs.Leading.{leads-both, leads-none, sample-leads}

-- ---- rows

rows_long : (g : List Given) → length (rows_of g) ≡ row_words * length g
unfolding rows_of
rows_long [] = refl
rows_long (x ∷ g) = let e = rows_long g in omega arith

rows_both : (g h : List Given) → rows_of (g ++ h) ≡ rows_of g ++ rows_of h
unfolding rows_of
rows_both [] h = refl
rows_both (x ∷ g) h = ap (λ (r : List ℕ). row_of x ++ r) (rows_both g h)

sets_both : (d : List ℕ) (i : ℕ) (a b : List ℕ) → sets d i (a ++ b) ≡ sets (sets d i a) (i + length a) b
sets_both d i [] b = let e : i ≡ i + 0 = omega arith in ap (λ (k : ℕ). sets d k b) e
sets_both d i (x ∷ a) b =
    let e : suc i + length a ≡ i + suc (length a) = omega arith in
    sets_both (set d i x) (suc i) a b ∙ ap (λ (k : ℕ). sets (sets (set d i x) (suc i) a) k b) e

-- One row behind others.
row-behind : (d : List ℕ) (g : List Given) (x : Given) → sets (sets d 0 (rows_of g)) (row_words * length g) (row_of x) ≡ sets d 0 (rows_of (g ++ (x ∷ [])))
unfolding rows_of
row-behind d g x =
    let e : 0 + length (rows_of g) ≡ row_words * length g = omega (arith, rows_long g) in
    ap (λ (k : ℕ). sets (sets d 0 (rows_of g)) k (row_of x)) (sym e)
    ∙ sym (sets_both d 0 (rows_of g) (row_of x))
    ∙ ap (sets d 0) (sym (rows_both g (x ∷ [])))

-- ---- samples

-- A sample of w octets can be laid.
pub record Fitting (sequence sequences w octets words : ℕ) : Type 0 where
  pub soon : sequence < sequences
  pub some : 0 < w
  pub fit : w ≤ octets
  pub room : row_words ≤ words
  pub narrow : w ≤ 8

module _ (t : List ℕ) (v : Waveform) (at : Spot) (count : ℕ) (u d : List ℕ) where
  pub laying-none : Laying t v at count u d (laid at 0 0) d
  unfolding rows_of
  laying-none =
      record {
        samples = [];
        within = omega arith;
        given = refl;
        room = omega arith;
        rows = refl;
        leads = λ x s around left h k.
            let a : count ≡ count + 0 = omega arith in
            let b : left ≡ left - 0 = omega arith in
            let l = link count x around v (waved left (coming_at at [])) in
            subst (λ (m : Link). Leads l [] m []) (λ i. link (a i) x around v (waved (b i) (coming_at at []))) (leads-none l);
      }

  module _ (x : Spot) (i n : ℕ) (e : List ℕ) where
    abbrev here_at : Settings
    here_at = (get_or (records_in t) x.channel zero_dated).settings

    abbrev here_octets : List ℕ
    here_octets = take (width_in here_at) (drop i u)

    abbrev here_given : Given
    here_given = given_at (sampling_of here_at) x (count + i) (number_of v.little here_octets)

    module _ (soon : x.sequence < v.sequences) (some : 0 < width_in here_at) (fit : width_in here_at ≤ length u - i) (room : row_words ≤ length d - row_words * n) where
      pub laying-more : (y : Spot) → coming_at y [] ≡ next_coming here_at.block v.channels (coming_at x []) → Laying t v at count u d (laid x i n) e
          → Laying t v at count u d (laid y (i + width_in here_at) (n + 1)) (sets e (row_words * n) (row_of here_given))
      laying-more y next l =
          record {
            samples = l.samples ++ (here_given ∷ []);
            within = omega arith;
            given = length-append l.samples (here_given ∷ []) ∙ ap (λ (k : ℕ). k + 1) l.given;
            room = omega arith;
            rows =
                (λ j. sets (l.rows j) (row_words * sym l.given j) (row_of here_given))
                ∙ row-behind d l.samples here_given;
            leads = leads;
          }
        where
          long : length here_octets ≡ width_in here_at
          long = simp (length-take, length-drop) (omega arith)

          leads : (s : Stand) → s.records ≡ records_in t → (around left : ℕ) → length u ≤ left → count + length u ≤ octets_limit
              → Leads (link count s around v (waved left (coming_at at []))) (take (i + width_in here_at) u) (link (count + (i + width_in here_at)) s around v (waved (left - (i + width_in here_at)) (coming_at y []))) (l.samples ++ (here_given ∷ []))
          leads s r around left h k =
              let w = width_in here_at in
              let here = link (count + i) s around v (waved (left - i) (coming_at x [])) in
              let found : (get_or s.records x.channel zero_dated).settings ≡ here_at = ap (λ (xs : List Dated). (get_or xs x.channel zero_dated).settings) r in
              let one = sample-leads s around v (count + i) (left - i) x soon here_octets (omega (arith, long)) (long ∙ sym (ap width_in found)) (omega (arith, long)) (omega (arith, long)) in
              let sample =
              subst
              (λ (c : Settings). Leads here here_octets (link (count + i + length here_octets) s around v (waved (left - i - length here_octets) (next_coming c.block v.channels (coming_at x [])))) (given_at (sampling_of c) x (count + i) (number_of v.little here_octets) ∷ []))
              found one in
              let a : count + i + length here_octets ≡ count + (i + w) = omega (arith, long) in
              let b : left - i - length here_octets ≡ left - (i + w) = omega (arith, long) in
              let all = leads-both _ here _ (take i u) here_octets l.samples (here_given ∷ []) (l.leads s r around left h k) sample in
              subst (λ (z : List ℕ). Leads (link count s around v (waved left (coming_at at []))) z (link (count + (i + w)) s around v (waved (left - (i + w)) (coming_at y []))) (l.samples ++ (here_given ∷ [])))
              (sym (take-add i w u))
              (subst (λ (m : Link). Leads (link count s around v (waved left (coming_at at []))) (take i u ++ here_octets) m (l.samples ++ (here_given ∷ [])))
              (λ j. link (a j) s around v (waved (b j) (sym next j))) all)

    -- The buffer is as long as it was.
    pub laying-long : Laying t v at count u d (laid x i n) e → length e ≡ length d
    laying-long l = ap length l.rows ∙ length-sets d 0 (rows_of l.samples)

-- What is read of a channel's record, and its width.
module _ (t : List ℕ) (v : Waveform) (count : ℕ) (u : List ℕ) (from : Laid) (d : List ℕ) where
  pub onward-none : from.taken ≤ length u → row_words * from.given ≤ length d → Onward t v count u from d from d
  onward-none h k = record { within = h; room = k; long = refl; on = λ at f l. l }

  module _ (x : Spot) (i n : ℕ) (e : List ℕ) (c : Sampling) (w : ℕ) (read : c ≡ sampling_of (get_or (records_in t) x.channel zero_dated).settings) (width : w ≡ width_of c.datatype)
      (o : Onward t v count u from d (laid x i n) e) where
    wide : w ≡ width_at t x
    wide = width ∙ ap (λ (z : Sampling). width_of z.datatype) read

    -- The tests by which a sample is laid.
    abbrev tested : Bool
    tested = both (ltb x.sequence v.sequences) (both (ltb 0 w) (both (leb w (length u - i)) (leb row_words (length e - row_words * n))))

    pub tests_true : tested ≡ true → Fitting x.sequence v.sequences w (length u - i) (length d - row_words * n)
    tests_true q =
        let a = both_split (ltb x.sequence v.sequences) _ q in
        let b = both_split (ltb 0 w) _ a.1 in
        let f = both_split (leb w (length u - i)) _ b.1 in
        record {
          soon = ltb-true _ _ a.0;
          some = ltb-true _ _ b.0;
          fit = leb-true _ _ f.0;
          room = omega (arith, leb-true row_words (length e - row_words * n) f.1, o.long);
          narrow = rw width (width_le c.datatype);
        }

    -- One sample more.
    pub onward-more : tested ≡ true → (bits : ℕ) → bits ≡ number_of v.little (take w (drop i u))
        → (y : Spot) → coming_at y [] ≡ next_coming c.block v.channels (coming_at x [])
        → (f : List ℕ) → f ≡ sets e (row_words * n) (row_of (given_at c x (count + i) bits))
        → Onward t v count u from d (laid y (i + w) (n + 1)) f
    onward-more q bits value y next f stored =
        let h = tests_true q in
        record {
          within = omega (arith, h.fit, h.some);
          room = omega (arith, h.room);
          long = ap length stored ∙ length-sets e (row_words * n) (row_of (given_at c x (count + i) bits)) ∙ o.long;
          on = λ at g l.
              let before = o.on at g l in
              let same = laying-long t v at count u g x i n e before in
              let room : row_words ≤ length g - row_words * n = omega (arith, h.room, o.long, same) in
              let told = value ∙ ap (λ (k : ℕ). number_of v.little (take k (drop i u))) wide in
              let row = stored ∙ (λ j. sets e (row_words * n) (row_of (given_at (read j) x (count + i) (told j)))) in
              let behind = next ∙ ap (λ (z : Sampling). next_coming z.block v.channels (coming_at x [])) read in
              subst (λ (k : ℕ). Laying t v at count u g (laid y (i + k) (n + 1)) f) (sym wide)
              (subst (λ (z : List ℕ). Laying t v at count u g (laid y (i + width_at t x) (n + 1)) z) (sym row)
              (laying-more t v at count u g x i n e h.soon (omega (arith, h.some, wide)) (omega (arith, h.fit, wide)) room y behind before));
        }

    -- No further sample can be laid.
    pub tests_false : tested ≡ false → lays_at t v x (length u - i) (length d - row_words * n) ≡ false
    unfolding lays_at
    tests_false q = (λ j. both (ltb x.sequence v.sequences) (both (ltb 0 (sym wide j)) (both (leb (sym wide j) (length u - i)) (leb row_words (sym o.long j - row_words * n))))) ∙ q

-- ---- all samples

module _ (t : List ℕ) (v : Waveform) (at : Spot) (count : ℕ) (u d : List ℕ) where
  -- Octets past the limit.
  pub lays_past : octets_limit < count + length u → Lays t v at count u d (laid at 0 0) d
  lays_past far = record { laying = laying-none t v at count u d; past = λ h. refl; all = λ h. let z : ⊥ = omega arith in absurd z }

  -- The samples of two octets, and those behind them.
  pub lays_all : (r s : Laid) (e f : List ℕ) → count + length u ≤ octets_limit → Onward t v count u (laid at 0 0) d r e → Onward t v count u r e s f
      → lays_at t v s.at (length u - s.taken) (length e - row_words * s.given) ≡ false → Lays t v at count u d s f
  lays_all r s e f near p o q =
      record {
        laying = o.on at d (p.on at d (laying-none t v at count u d));
        past = λ h. let z : ⊥ = omega arith in absurd z;
        all = λ h. ap (λ (k : ℕ). lays_at t v s.at (length u - s.taken) (k - row_words * s.given)) (sym p.long) ∙ q;
      }
