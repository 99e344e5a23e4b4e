-- How values are told into buffers.
--     Mapping, mapping_begins, mapping_turns, mapping_ends    a loop that stores f of each of n elements
--     Pieces, pieces_begin, pieces_turn, pieces_end           a loop that does so piece by piece
--     piece_bits, seen_piece, seen_long    the bits of a piece
--     there-small    the numbers of samples that are there fit in 64 bits
--     map-bits, kinds_told, wholes_told    what is told of samples are their values
-- Assumes nothing.
use mathlib.Core.Path.{◌≡◌, refl, sym, ap, ◌∙◌}
use mathlib.Core.Bool.{Bool, true, false}
use mathlib.Core.List.{List, ◌∷◌, ◌++◌, map, map-append, map-map}
use Prim.Native.Nat.{ℕ, zero, suc, ◌+◌, ◌-◌, ◌^◌, ◌≤◌, ◌<◌, min}
use native.Mathlib.Nat.{add-zero, add-suc, add_assoc, mul-le-mul}
use native.Mathlib.Numerals.{add-one}
use native.Mathlib.Omega.{arith}
use lib.Dec.{ltb}
use lib.ListN.{length, get_or, set, take, drop, length-set, length-map, length-append, length-drop}
use lib.Seq.{sets, length-sets, drop-cons}
use Rattle.octets.specs.Pick.{pick}
use Rattle.octets.specs.Number.{Octets, range}
use Rattle.octets.proofs.Laws.{number_first, drop-octets}
use Rattle.values.specs.declared.Telling.{Telling}
use Rattle.values.specs.Sample.{Said, value_of}
use Rattle.values.specs.Told.{told_as, told_of}
use Rattle.values.proofs.Told.{told_is}
use Rattle.layout.specs.Frame.{width_in}
use Rattle.heads.specs.declared.Fault.TheVariants.{NoFrame, NoSample}
use Rattle.heads.specs.Answer.{Answer, answered, refused_as, left_by}
use Rattle.view.specs.declared.View.{View}
use Rattle.there.proofs.Counts.{count-few}
use Rattle.spread.proofs.Lying.{there-named}
use Rattle.view.specs.View.{spread_of, count_seen, there_seen, place_seen, lies_in}
use Rattle.view.proofs.Lying.{LiesIn, AskedIn, asked-answered}
use Rattle.strides.specs.Laying.{bits_from}
use Rattle.strides.proofs.Walks.{length-bits, bits-append, stores_join}
use Rattle.bulk.specs.Samples.{bits_seen, read_seen, values_by}
use Rattle.bulk.specs.Walked.{meaning_seen, kinds_seen, wholes_seen}

-- ---- element by element

module _ {A : Type 0} (f : ℕ → A) (xs : List ℕ) (n : ℕ) where
  -- f of the elements from i on is still to be stored, and gives the buffer that is wanted.
  pub record Mapping (out₀ : List A) (at : ℕ) (out : List A) (i : ℕ) : Type 0 where
    pub part : i ≤ n
    pub room : at + n ≤ length out
    pub long : length out ≡ length out₀
    pub rest : sets out (at + i) (map f (take (n - i) (drop i xs))) ≡ sets out₀ at (map f (take n xs))

  pub mapping_begins : {out : List A} {at : ℕ} → at + n ≤ length out → Mapping out at out 0
  mapping_begins {out} {at} h =
      let e : n - 0 ≡ n = omega arith in
      record { part = omega arith; room = h; long = refl; rest = rw (e, add-zero) }

  one_stored : (out : List A) (at i k : ℕ) → i < length xs → sets (set out (at + i) (f (get_or xs i 0))) (at + (i + 1)) (map f (take k (drop (i + 1) xs))) ≡ sets out (at + i) (map f (take (suc k) (drop i xs)))
  one_stored out at i k h = rw (add-one, add-suc, drop-cons xs i 0 h)

  pub mapping_turns : {out₀ out : List A} {at i : ℕ} {y : A} → n ≤ length xs → i < n → y ≡ f (get_or xs i 0) → Mapping out₀ at out i → Mapping out₀ at (set out (at + i) y) (i + 1)
  mapping_turns {out₀} {out} {at} {i} {y} l h e m =
      let k : n - i ≡ suc (n - (i + 1)) = omega arith in
      record {
        part = omega arith;
        room = simp length-set (omega (arith, m.room));
        long = simp length-set m.long;
        rest = rw e (one_stored out at i (n - (i + 1)) (omega arith) ∙ (rw k at m.rest));
      }

  pub mapping_ends : {out₀ out : List A} {at i : ℕ} → n ≤ i → Mapping out₀ at out i → out ≡ sets out₀ at (map f (take n xs))
  mapping_ends {i = i} h m = let e : n - i ≡ 0 = omega arith in rw e at m.rest

-- ---- piece by piece

module _ {A : Type 0} (f : ℕ → A) (g : ℕ → ℕ) (first n : ℕ) where
  -- f of the bits of the samples behind those that are done is still to be stored, and gives the buffer that is wanted.
  pub record Pieces (out₀ out : List A) (done : ℕ) : Type 0 where
    pub part : done ≤ n
    pub room : n ≤ length out
    pub long : length out ≡ length out₀
    pub rest : sets out done (map f (bits_from g (first + done) (n - done))) ≡ sets out₀ 0 (map f (bits_from g first n))

  pub pieces_begin : {out : List A} → n ≤ length out → Pieces out out 0
  pieces_begin {out} h =
      let e : n - 0 ≡ n = omega arith in
      record { part = omega arith; room = h; long = refl; rest = rw (e, add-zero) }

  pub pieces_turn : {out₀ out new : List A} {done : ℕ} (k : ℕ) → done + k ≤ n → new ≡ sets out done (map f (bits_from g (first + done) k)) → Pieces out₀ out done → Pieces out₀ new (done + k)
  pieces_turn {out₀} {out} {new} {done} k h e p =
      let left = n - (done + k) in
      let u = map f (bits_from g (first + done) k) in
      let whole : n - done ≡ k + left = omega arith in
      let long : length new ≡ length out = ap length e ∙ length-sets out done u in
      let parts = ap (map f) (ap (bits_from g (first + done)) whole ∙ bits-append g (first + done) k left) ∙ map-append f (bits_from g (first + done) k) (bits_from g (first + done + k) left) in
      record {
        part = h;
        room = omega (arith, p.room);
        long = long ∙ p.long;
        rest = rw (← add_assoc first done k) (stores_join out u (map f (bits_from g (first + done + k) left)) done e (simp (length-map, length-bits)) ∙ ap (sets out done) (sym parts) ∙ p.rest);
      }

  pub pieces_end : {out₀ out : List A} {done : ℕ} → n ≤ done → Pieces out₀ out done → out ≡ sets out₀ 0 (map f (bits_from g first n))
  unfolding bits_from
  pieces_end {done = done} h p = let e : n - done ≡ 0 = omega arith in rw e at p.rest

-- The first k of some bits are fewer bits.
pub piece_bits : (g : ℕ → ℕ) (m k p : ℕ) (rest : List ℕ) → k ≤ p → take k (bits_from g m p ++ rest) ≡ bits_from g m k
unfolding bits_from
piece_bits g m zero p rest h = refl
piece_bits g m (suc k) zero rest h = let z : ⊥ = omega arith in absurd z
piece_bits g m (suc k) (suc p) rest h = ap (λ (l : List ℕ). g m ∷ l) (piece_bits g (suc m) k p rest (omega arith))

-- Fewer than 2^64 samples are there.
pub there-small : (v : View) → v.sequences ≤ 4294967295 → v.settings.block ≤ 4294967295 → there_seen v < 2 ^ 64
there-small v h k = omega (arith, count-few v.sequences v.settings.block (width_in v.settings) v.octets v.below v.long, mul-le-mul h k)

-- ---- what is told

-- Two tellings that agree below a bound agree on bits below it.
pub map-bits : {A : Type 0} (f h : ℕ → A) (g : ℕ → ℕ) (R : ℕ) → ((b : ℕ) → b < R → f b ≡ h b) → ((j : ℕ) → g j < R) → (m n : ℕ) → map f (bits_from g m n) ≡ map h (bits_from g m n)
unfolding bits_from
map-bits f h g R e l m zero = refl
map-bits {A} f h g R e l m (suc n) = let first = e (g m) (l m) in let rest = map-bits f h g R e l (suc m) n in λ i. first i ∷ rest i

-- The bits that reading a channel that lies in the file leaves at the front of a buffer.
pub seen_piece : (s : List ℕ) (v : View) (m room k : ℕ) (bits : List ℕ) {new : List ℕ} → LiesIn (length s) v → m < there_seen v → k ≤ min room (there_seen v - m) → new ≡ left_by (read_seen s v m room) bits
    → take k new ≡ bits_from (bits_seen s v) m k
unfolding read_seen left_by
seen_piece s v m room k bits l h b e =
    let x = bits_from (bits_seen s v) m (min room (there_seen v - m)) in
    let asked : AskedIn (length s) v m = record { lies = l; number = there-named (spread_of v) m h } in
    ap (take k) (e ∙ ap (λ (a : Answer (List ℕ)). left_by a bits) (asked-answered x asked)) ∙ piece_bits (bits_seen s v) m k (min room (there_seen v - m)) (drop (length x) bits) b

-- Reading leaves a buffer as long as it was.
pub seen_long : (s : List ℕ) (v : View) (m : ℕ) (bits : List ℕ) {new : List ℕ} → new ≡ left_by (read_seen s v m (length bits)) bits → length new ≡ length bits
unfolding read_seen left_by
seen_long s v m bits e = ap length e ∙ by (ltb m (count_seen v)) (lies_in (length s) v)
  where
    x : List ℕ
    x = bits_from (bits_seen s v) m (min (length bits) (there_seen v - m))

    by : (a b : Bool) → length (left_by (pick a (pick b (answered x) (refused_as NoFrame 0)) (refused_as NoSample 0)) bits) ≡ length bits
    by true true = simp (length-append, length-drop) (omega (arith, length-bits (bits_seen s v) m (min (length bits) (there_seen v - m))))
    by true false = refl
    by false b = refl

-- What is told of samples that are seen is their values' kinds and whole numbers.
module _ (s : List ℕ) (o : Octets s) (v : View) where
  bits_below : (j : ℕ) → bits_seen s v j < range (width_in v.settings)
  unfolding bits_seen place_seen
  bits_below j = number_first v.little (drop (place_seen v j) s) (drop-octets (place_seen v j) s o) (width_in v.settings)

  values_told : {A : Type 0} (g : Said → A) (h : Telling → A) → ((x : Said) → h (told_as x) ≡ g x) → (m n : ℕ)
      → map (λ b. h (told_of (meaning_seen v) b)) (bits_from (bits_seen s v) m n) ≡ map g (values_by v.settings (bits_from (bits_seen s v) m n))
  values_told g h e m n =
      map-bits (λ b. h (told_of (meaning_seen v) b)) (λ b. g (value_of v.settings.datatype v.settings.null b)) (bits_seen s v) (range (width_in v.settings))
      (λ b l. ap h (told_is v.settings.datatype v.settings.null b l) ∙ e (value_of v.settings.datatype v.settings.null b)) bits_below m n
      ∙ sym (map-map g (value_of v.settings.datatype v.settings.null) (bits_from (bits_seen s v) m n))

  pub kinds_told : (m n : ℕ) → kinds_seen s v m n ≡ map (λ x. x.kind) (values_by v.settings (bits_from (bits_seen s v) m n))
  kinds_told = values_told (λ x. x.kind) (λ t. t.kind) (λ x. refl)

  pub wholes_told : (m n : ℕ) → wholes_seen s v m n ≡ map (λ x. x.whole) (values_by v.settings (bits_from (bits_seen s v) m n))
  wholes_told = values_told (λ x. x.whole) (λ t. t.whole) (λ x. refl)
