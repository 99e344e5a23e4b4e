-- Where in its sample an octet of a waveform stands.
--     Good, lies       blocks and samples have octets; where a sample lies
--     ArrivesAt        the sample at hand, and that its octets are the last that have come
--     arrives_first    at the waveform's first octet
--     arrives_on, arrives_next    one octet further
--     rest-none        where the waveform ends, no sample that was still to come is there
-- Assumes nothing.
use Prim.Native.Nat.{ℕ, zero, suc, ◌+◌, ◌*◌, ◌≤◌, ◌<◌}
use mathlib.Core.Path.{◌≡◌, refl, sym, ◌∙◌, ap, subst}
use mathlib.Core.List.{List, [], ◌∷◌, ◌++◌}
use native.Mathlib.Omega.{arith}
use native.Mathlib.Decide.{dec_lt}
use native.Mathlib.Nat.{add-mul, one-mul, zero-mul, mul-le-mul_right}
use native.Mathlib.Numerals.{add-one}
use borrow.Author.Tests.{ltb-true, ltb-false}
use lib.Dec.{ltb}
use lib.ListN.{length, drop, length-append}
use lib.Seq.{drop-append-le, drop-length, take-length}
use Rattle.octets.proofs.Pick.{pick_cases}
use Rattle.settings.specs.declared.Settings.{Settings}
use Rattle.layout.specs.Frame.{width_in, block_octets, sequence_octets, octets_below, channel_in, offset_of}
use Rattle.laid.specs.Laid.{Named}
use Rattle.laid.proofs.Places.{offset-is, offset-inside}
use Rattle.link.specs.Link.{Coming, coming, first_coming, next_coming}
use Rattle.link.proofs.Rest.{rest, rest-past, rest-next}

-- Blocks and samples have octets.
pub record Good (cs : List Settings) : Type 0 where
  pub some : 0 < length cs
  pub blocks : (c : ℕ) → c < length cs → 0 < (channel_in c cs).block
  pub widths : (c : ℕ) → c < length cs → 0 < width_in (channel_in c cs)

-- The number of the sample at hand, its octets, and where it lies in the waveform.
abbrev pub number_at : List Settings → Coming → ℕ
number_at cs t = t.sequence * (channel_in t.channel cs).block + t.index

abbrev pub width_at : List Settings → Coming → ℕ
width_at cs t = width_in (channel_in t.channel cs)

abbrev pub lies : List Settings → Coming → ℕ
lies cs t = t.sequence * sequence_octets cs + octets_below t.channel cs + t.index * width_at cs t

-- The sample at hand is one of the frame's.
pub record Among (cs : List Settings) (t : Coming) : Type 0 where
  pub channel : t.channel < length cs
  pub index : t.index < (channel_in t.channel cs).block

pub lies-is : (cs : List Settings) (t : Coming) → Among cs t → offset_of cs t.channel (number_at cs t) ≡ lies cs t
lies-is cs t a = offset-is cs t.channel t.sequence t.index a.index

abbrev pub next_at : List Settings → Coming → Coming
next_at cs t = next_coming (channel_in t.channel cs).block (length cs) t

-- ---- the next sample begins where this one ends

below_none : (cs : List Settings) → octets_below 0 cs ≡ 0
unfolding octets_below sequence_octets
below_none cs = refl

below_next : (cs : List Settings) (c : ℕ) → c < length cs → octets_below (suc c) cs ≡ octets_below c cs + block_octets (channel_in c cs)
unfolding octets_below sequence_octets
below_next [] c h = let z : ⊥ = omega arith in absurd z
below_next (x ∷ cs) zero h = omega arith
below_next (x ∷ cs) (suc c) h = omega (arith, below_next cs c (omega arith))

below_all : (cs : List Settings) → octets_below (length cs) cs ≡ sequence_octets cs
unfolding octets_below
below_all cs = ap sequence_octets (take-length cs)

-- It is one of the frame's, it lies there, and nothing of it has come.
pub record NextOf (cs : List Settings) (t u : Coming) : Type 0 where
  pub among : Among cs u
  pub place : lies cs u ≡ lies cs t + width_at cs t
  pub none : u.octets ≡ []

pub next_of : (cs : List Settings) (t : Coming) → Good cs → Among cs t → NextOf cs t (next_at cs t)
unfolding next_coming block_octets
next_of cs t g a =
    let b = (channel_in t.channel cs).block in
    let w = width_at cs t in
    let m : (t.index + 1) * w ≡ t.index * w + w = add-mul t.index 1 w ∙ ap (λ (x : ℕ). t.index * w + x) (one-mul w) in
    pick_cases (NextOf cs t) (ltb (t.index + 1) b)
    (λ e. record { among = record { channel = a.channel; index = ltb-true (t.index + 1) b e }; place = omega arith; none = refl })
    (λ e.
    let y = ltb-false (t.index + 1) b e in
    let z : t.index + 1 ≡ b = omega (arith, a.index) in
    let full : b * w ≡ t.index * w + w = ap (λ (i : ℕ). i * w) (sym z) ∙ m in
    let below : octets_below (suc t.channel) cs ≡ octets_below t.channel cs + b * w = below_next cs t.channel a.channel in
    pick_cases (NextOf cs t) (ltb (t.channel + 1) (length cs))
    (λ h.
    let c = ltb-true (t.channel + 1) (length cs) h in
    let v = zero-mul (width_in (channel_in (t.channel + 1) cs)) in
    let o : octets_below (t.channel + 1) cs ≡ octets_below (suc t.channel) cs = ap (λ (i : ℕ). octets_below i cs) (add-one t.channel) in
    record { among = record { channel = c; index = g.blocks (t.channel + 1) c }; place = omega arith; none = refl })
    (λ h.
    let c = ltb-false (t.channel + 1) (length cs) h in
    let last : suc t.channel ≡ length cs = omega (arith, a.channel) in
    let all : octets_below (suc t.channel) cs ≡ sequence_octets cs = ap (λ (i : ℕ). octets_below i cs) last ∙ below_all cs in
    let r : (t.sequence + 1) * sequence_octets cs ≡ t.sequence * sequence_octets cs + sequence_octets cs =
    add-mul t.sequence 1 (sequence_octets cs) ∙ ap (λ (x : ℕ). t.sequence * sequence_octets cs + x) (one-mul (sequence_octets cs)) in
    let v = zero-mul (width_in (channel_in 0 cs)) in
    record { among = record { channel = g.some; index = g.blocks 0 g.some }; place = omega (arith, below_none cs); none = refl }))

-- ---- as the octets come

-- In a waveform that starts at `from`.
pub record ArrivesAt (s : List ℕ) (cs : List Settings) (from : ℕ) (t : Coming) : Type 0 where
  pub among : Among cs t
  pub come : length t.octets < width_at cs t
  pub place : from + lies cs t + length t.octets ≡ length s
  pub octets : t.octets ≡ drop (from + lies cs t) s

-- At a sample's first octet.
arrives_fresh : (s : List ℕ) (cs : List Settings) (from : ℕ) (t : Coming) → Good cs → Among cs t → t.octets ≡ [] → from + lies cs t ≡ length s → ArrivesAt s cs from t
arrives_fresh s cs from t g a n e =
    record {
      among = a;
      come = rw n (g.widths t.channel a.channel);
      place = rw n (omega arith);
      octets = n ∙ sym (drop-length s) ∙ ap (λ (k : ℕ). drop k s) (sym e);
    }

pub arrives_first : (s : List ℕ) (cs : List Settings) → Good cs → ArrivesAt s cs (length s) first_coming
arrives_first s cs g =
    let a = zero-mul (sequence_octets cs) in
    let b = zero-mul (width_in (channel_in 0 cs)) in
    arrives_fresh s cs (length s) first_coming g (record { channel = g.some; index = g.blocks 0 g.some }) refl (omega (arith, below_none cs))

module _ (s : List ℕ) (b : ℕ) (cs : List Settings) (from : ℕ) (g : Good cs) (t : Coming) (p : ArrivesAt s cs from t) where
  abbrev pub octets_now : List ℕ
  octets_now = t.octets ++ (b ∷ [])

  -- The octets of the sample that have come, with this one.
  pub octets_now_lem : octets_now ≡ drop (from + lies cs t) (s ++ (b ∷ []))
  octets_now_lem = ap (λ (o : List ℕ). o ++ (b ∷ [])) p.octets ∙ sym (drop-append-le (from + lies cs t) s (b ∷ []) (omega (arith, p.place)))

  -- More of it is to come.
  pub arrives_on : length octets_now < width_at cs t → ArrivesAt (s ++ (b ∷ [])) cs from (coming t.sequence t.channel t.index octets_now)
  arrives_on h =
      record {
        among = record { channel = p.among.channel; index = p.among.index };
        come = h;
        place = omega (arith, p.place, length-append s (b ∷ []), length-append t.octets (b ∷ []));
        octets = octets_now_lem;
      }

  -- It is complete.
  pub complete : width_at cs t ≤ length octets_now → from + lies cs t + width_at cs t ≡ length (s ++ (b ∷ []))
  complete h = omega (arith, p.place, p.come, length-append s (b ∷ []), length-append t.octets (b ∷ []))

  pub arrives_next : width_at cs t ≤ length octets_now → ArrivesAt (s ++ (b ∷ [])) cs from (next_at cs t)
  arrives_next h =
      let n = next_of cs t g p.among in
      arrives_fresh (s ++ (b ∷ [])) cs from (next_at cs t) g n.among n.none (omega (arith, complete h, n.place))

-- ---- where the waveform ends

-- The sample at hand is named, where its sequence is one of the frame's.
pub named-at : (cs : List Settings) (S : ℕ) (t : Coming) → t.sequence < S → Among cs t → Named cs S t.channel (number_at cs t)
named-at cs S t h a =
    let b = (channel_in t.channel cs).block in
    let e : (t.sequence + 1) * b ≡ t.sequence * b + b = add-mul t.sequence 1 b ∙ ap (λ (x : ℕ). t.sequence * b + x) (one-mul b) in
    let k : (t.sequence + 1) * b ≤ S * b = mul-le-mul_right b (omega arith) in
    record { channel = a.channel; number = omega (arith, a.index) }

lies-below : (cs : List Settings) (S : ℕ) (t : Coming) → t.sequence < S → Among cs t → lies cs t + width_at cs t ≤ S * sequence_octets cs
lies-below cs S t h a = subst (λ (x : ℕ). x + width_at cs t ≤ S * sequence_octets cs) (lies-is cs t a) (offset-inside (named-at cs S t h a))

-- Where samples that end behind a place tell nothing, those tell nothing that are still to come while the one at hand ends behind it.
module _ {A : Type 0} (g : ℕ → ℕ → List A) (cs : List Settings) (S long : ℕ) (good : Good cs)
    (nothing : (c n : ℕ) → long < offset_of cs c n + width_in (channel_in c cs) → g c n ≡ []) where
  by_octets : (k : ℕ) (t : Coming) → S * sequence_octets cs < k + lies cs t → Among cs t → long < lies cs t + width_at cs t → rest g cs S t ≡ []
  by_octets zero t h a l = by (dec_lt t.sequence S)
    where
      by : Dec (t.sequence < S) → rest g cs S t ≡ []
      by (yes q) = let z : ⊥ = omega (arith, lies-below cs S t q a) in absurd z
      by (no q) = rest-past g cs S t (omega arith)
  by_octets (suc k) t h a l = by (dec_lt t.sequence S) (λ u f b m. by_octets k u f b m)
    where
      by : Dec (t.sequence < S) → ((u : Coming) → S * sequence_octets cs < k + lies cs u → Among cs u → long < lies cs u + width_at cs u → rest g cs S u ≡ []) → rest g cs S t ≡ []
      by (yes q) ih =
          let n = next_of cs t good a in
          let w = good.widths t.channel a.channel in
          rest-next g cs S t good.some q a.channel a.index
          ∙ ap (λ (l : List A). l ++ rest g cs S (next_at cs t)) (nothing t.channel (number_at cs t) (rw (lies-is cs t a) l))
          ∙ ih (next_at cs t) (omega (arith, n.place)) n.among (omega (arith, n.place))
      by (no q) ih = rest-past g cs S t (omega arith)

  pub rest-none : (t : Coming) → Among cs t → long < lies cs t + width_at cs t → rest g cs S t ≡ []
  rest-none t a l = by_octets (suc (S * sequence_octets cs)) t (omega arith) a l
