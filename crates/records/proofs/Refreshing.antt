-- Records brought up to date one after the other.
--     Refreshing             the first i of n are
--     refreshing_start, -room, -more, -all    none yet, there is a next one, one more, all
--     refreshed-few          no more than there are
-- Assumes nothing.
use mathlib.Core.Path.{◌≡◌, refl, sym, ap, ◌∙◌}
use mathlib.Core.Bool.{Bool, true, false}
use mathlib.Core.Logic.{◌⊎◌, inl, inr}
use mathlib.Core.List.{List}
use Prim.Native.Nat.{ℕ, ◌+◌, ◌*◌, ◌%◌, ◌≤◌, ◌<◌, min}
use native.Mathlib.Nat.{le_refl, not-suc-le-zero}
use native.Mathlib.Numerals.{add-one}
use native.Mathlib.Omega.{arith}
use borrow.Author.Tests.{ltb-true, ltb-false}
use lib.Dec.{ltb}
use lib.ListN.{length, get_or, set, take, length-set}
use lib.Seq.{get_or-set_same, get_or-set_other, take-take}
use Rattle.settings.specs.declared.Settings.{Settings}
use Rattle.settings.specs.Settings.{channel_limit}
use Rattle.dated.specs.declared.Dates.{Dates}
use Rattle.dated.specs.Dated.{zero_dated, settled_at, up_to_date, refreshed}
use Rattle.dated.proofs.Tables.{table_long}
use Rattle.dated.proofs.Refreshed.{refreshed-past, refreshed-more, refreshed-there}
use Rattle.layout.specs.declared.Layout.{Layout}
use Rattle.layout.specs.Frame.{sequence_octets, octets_below}
use Rattle.layout.specs.Measure.{no_layout, layout_of, More}
use Rattle.layout.proofs.Laws.{Summing, summing_start, summed_below, summed_up}
use Rattle.words.specs.Words.{record_words, record_numbers, below_word, records_held, records_in, below_in, Holding}
use Rattle.records.specs.Records.{channels_in, PastKept, Refreshed}
use Rattle.words.proofs.Laws.{records-long, below_aside}
use Rattle.records.proofs.Channels.{layout-more, take-there}
use Rattle.records.proofs.Renewing.{renewed_holds}

-- ---- one after the other

-- The first i of n records of the words u are brought up to date, with the octets below them; l is the layout of their channels.
pub record Refreshing (u : List ℕ) (n : ℕ) (root : Settings) (d : Dates) (i : ℕ) (l : Layout) (v : List ℕ) : Type 0 where
  pub room : n ≤ length (records_in u)
  pub sums : Summing 0 (channels_in root d u) n i l
  pub records : records_in v ≡ refreshed i root d (records_in u)
  pub long : length v ≡ length u
  pub below : (k : ℕ) → k < i → below_in v k ≡ octets_below k (channels_in root d u)
  pub others : (k : ℕ) → i ≤ k → below_in v k ≡ below_in u k
  pub past : PastKept u v

pub refreshing_start : {u : List ℕ} {n : ℕ} {l : Layout} (root : Settings) (d : Dates) → n ≤ channel_limit → n ≤ length (records_in u) → l ≡ no_layout → Refreshing u n root d 0 l u
unfolding refreshed
refreshing_start {u = u} root d few room e =
    record {
      room = room;
      sums = summing_start 0 (rw (table_long root d (records_in u)) room) few e;
      records = refl;
      long = refl;
      below = λ k h. absurd (not-suc-le-zero h);
      others = λ k h. refl;
      past = record { same = λ m h. refl };
    }

module _ {u : List ℕ} {n : ℕ} {root : Settings} {d : Dates} {i : ℕ} {l : Layout} {v : List ℕ} (p : Refreshing u n root d i l v) where
  -- There is a next record.
  pub refreshing_room : i < n → i < records_held v
  refreshing_room h = omega (arith, h, p.room, p.long, records-long u)

  -- It is as it was.
  same_at : get_or (records_in v) i zero_dated ≡ get_or (records_in u) i zero_dated
  same_at = ap (λ t. get_or t i zero_dated) p.records ∙ refreshed-past root d i i (records_in u) zero_dated (le_refl i)

  -- What is summed up so far is the octets below it.
  octets-below : i < n → l.octets ≡ octets_below i (channels_in root d u)
  unfolding octets_below
  octets-below h = summed_below p.sums ∙ ap sequence_octets (take-take i n (channels_in root d u) (omega (arith, h)))

  module _ {v' v'' : List ℕ} (h : i < n) (o : Holding v (set (records_in v) i (up_to_date root d (get_or (records_in v) i zero_dated))) v')
      (e : v'' ≡ set v' (i * record_words + below_word) l.octets) where
    -- The record holds what stands for its channel.
    holds_now : (get_or (records_in v') i zero_dated).settings ≡ settled_at root d (get_or (records_in u) i zero_dated)
    holds_now = renewed_holds (up_to_date root d (get_or (records_in v) i zero_dated)) (refreshing_room h) o ∙ ap (settled_at root d) same_at

    below_more : (k : ℕ) → k < i + 1 → (t : Bool) → ltb k i ≡ t → below_in (set v' (i * record_words + below_word) l.octets) k ≡ octets_below k (channels_in root d u)
    below_more k l' true q =
        let b = ltb-true k i q in
        get_or-set_other v' (i * record_words + below_word) (k * record_words + below_word) l.octets 0 (λ z. let y : ⊥ = omega arith in y)
        ∙ o.others (k * record_words + below_word) (inl (omega arith)) ∙ p.below k b
    below_more k l' false q =
        let same : k ≡ i = omega (arith, ltb-false k i q) in
        rw same (get_or-set_same v' (i * record_words + below_word) l.octets 0 (omega (arith, o.long, p.long, p.room, records-long u)) ∙ octets-below h)

    -- A word that is neither the record's nor kept with it.
    aside : (m : ℕ) → (m ≡ i * record_words + below_word → ⊥) → (record_numbers ≤ m % record_words) ⊎ (records_held v * record_words ≤ m)
        → get_or (set v' (i * record_words + below_word) l.octets) m 0 ≡ get_or v m 0
    aside m ne b = get_or-set_other v' (i * record_words + below_word) m l.octets 0 ne ∙ o.others m b

    pub refreshing_more : (m : Layout) → More i 0 (get_or (records_in v') i zero_dated).settings l m → Refreshing u n root d (i + 1) m v''
    refreshing_more m g =
        record {
          room = p.room;
          sums = layout-more root d (records_in u) p.room p.sums m h holds_now g;
          records = ap records_in e ∙ below_aside v' i l.octets ∙ o.records
              ∙ (λ j. set (p.records j) i (up_to_date root d (same_at j)))
              ∙ refreshed-more root d i (records_in u) zero_dated (omega (arith, h, p.room))
              ∙ ap (λ (k : ℕ). refreshed k root d (records_in u)) (sym (add-one i));
          long = ap length e ∙ length-set v' (i * record_words + below_word) l.octets ∙ o.long ∙ p.long;
          below = λ k b. ap (λ (w : List ℕ). below_in w k) e ∙ below_more k b (ltb k i) refl;
          others = λ k b.
              ap (λ (w : List ℕ). below_in w k) e
              ∙ aside (k * record_words + below_word) (λ z. let y : ⊥ = omega arith in y) (inl (omega arith))
              ∙ p.others k (omega arith);
          past = record {
            same = λ m b.
                ap (λ (w : List ℕ). get_or w m 0) e
                ∙ aside m (λ z. let y : ⊥ = omega (arith, h, p.room, records-long u) in y) (inr (rw p.long b))
                ∙ p.past.same m b;
          };
        }

  pub refreshing_all : n ≤ i → Refreshed u n root d l v
  refreshing_all h =
      let same : i ≡ n = omega (arith, p.sums.passed.low, p.sums.long) in
      record {
        layout = summed_up p.sums n refl h;
        records = p.records ∙ ap (λ (k : ℕ). refreshed k root d (records_in u)) same;
        long = p.long;
        below = λ k a b. p.below k (omega arith);
        others = λ k b. p.others k (omega arith);
        past = p.past;
      }

-- No more are brought up to date than there are.
pub refreshed-few : {u v : List ℕ} {n : ℕ} {root : Settings} {d : Dates} {l : Layout} (m : ℕ) → n ≡ min m (length (records_in u)) → Refreshed u n root d l v → Refreshed u m root d l v
refreshed-few {u} {root = root} {d} m e f =
    let table = channels_in root d u in
    record {
      layout = f.layout ∙ ap (λ (k : ℕ). layout_of 0 (take k table)) (e ∙ ap (min m) (sym (table_long root d (records_in u)))) ∙ ap (layout_of 0) (take-there m table);
      records = f.records ∙ ap (λ (k : ℕ). refreshed k root d (records_in u)) e ∙ refreshed-there root d m (records_in u);
      long = f.long;
      below = λ k a b. f.below k (omega (arith, records-long u)) b;
      others = λ k b. f.others k (omega arith);
      past = f.past;
    }
