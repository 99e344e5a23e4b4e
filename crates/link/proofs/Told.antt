-- The settings that are given out are those of the file up to the waveform's end.
--     told_last     while a frame is told, the file up to the waveform's end is accepted, and that frame is its last
--     told_right    the attributes that the link then answers
-- Assumes nothing.
use Prim.Native.Nat.{ℕ, ◌+◌, ◌-◌, ◌≤◌, ◌<◌}
use mathlib.Core.Path.{◌≡◌, refl, sym, ◌∙◌, ap, subst}
use mathlib.Core.List.{List, [], ◌∷◌, ◌++◌, append-nil}
use mathlib.Core.Bool.{Bool, true, false}
use mathlib.Core.Logic.{inl, inr}
use native.Mathlib.Omega.{arith}
use borrow.Author.Tests.{lt-ltb, ltb-true}
use lib.Dec.{ltb}
use lib.ListN.{length, get_or, length-append}
use lib.Seq.{get_or-append_seam}
use Rattle.octets.specs.Pick.{pick}
use Rattle.heads.specs.declared.Fault.TheVariants.{NoChannel}
use Rattle.heads.specs.Answer.{answered, refused_as}
use Rattle.items.specs.declared.Within.TheVariants.{Root}
use Rattle.items.specs.declared.Cursor.{Cursor}
use Rattle.items.specs.Walk.{cursor, stands_in, extent}
use Rattle.items.proofs.Walks.{next-none}
use Rattle.layout.specs.Frame.{Frame, reported}
use Rattle.standing.specs.Standing.{octets_limit}
use Rattle.verdict.specs.Verdict.{accepted, verdict, unlimited}
use Rattle.verdict.proofs.Keeps.{within_limit}
use Rattle.pass.specs.Scan.{zero_frame}
use Rattle.reader.specs.Answer.{asked, attributes_with, attributes_in, attributes_of}
use Rattle.walk.specs.declared.Waveform.{Waveform}
use Rattle.walk.specs.Advance.{Stand}
use Rattle.walk.specs.Joined.{frame_by}
use Rattle.walk.proofs.Joins.{Stands, Counts}
use Rattle.link.specs.Link.{Phase, head, value, waveform, waits, decided, Link, Fresh, settings_in, fed_with, given_by}
use Rattle.link.specs.Order.{settings_told}
use Rattle.link.proofs.Follows.{within_of, channels_by, Tells, FollowsIn}
use Rattle.link.proofs.Waves.{settings-is}
use Rattle.link.proofs.Fed.{nothing_left, end_next, alone, fed_follows}

-- The octets of a waveform that are still to come.
abbrev pub left_in : Phase → ℕ
left_in (head p) = 0
left_in (value tag left kept) = 0
left_in (waveform left t) = left
left_in (waits left r) = 0
left_in (decided a) = 0

none-long : (u : List ℕ) → length u ≡ 0 → u ≡ []
none-long [] e = refl
none-long (b ∷ u) e = let z : ⊥ = omega arith in absurd z

-- The file ends where the walk stands, outside groups.
pub ends_there : {w : List ℕ} {met : List Frame} {y : Stand} → Stands w met y → y.cursor ≡ cursor (length w) Root → unlimited w ≡ accepted met
ends_there {w} {met} {y} p e =
    let at = ap (λ (c : Cursor). c.at) e in
    end_next p
    (sym (next-none w y.cursor Root (extent w y.cursor.at Root) (sym (ap (λ (c : Cursor). stands_in c.at c.within) e)) refl (nothing_left w y.cursor.at Root (omega (arith, at)))))

-- The last frame of a file is the one that is told.
pub record ToldLast (w : List ℕ) (l : Link) : Type 0 where
  pub before : List Frame
  pub many : l.stand.frames ≡ length before + 1
  pub accepts : verdict w ≡ accepted (before ++ (frame_by w l.frame l.stand ∷ []))
  pub counted : Counts l.frame (frame_by w l.frame l.stand)

-- While a frame is told, the file up to the waveform's end is accepted, and that frame is its last.
pub told_last : {l₀ : Link} → Fresh l₀ → (s u : List ℕ) → length (s ++ u) ≤ octets_limit → 0 < (fed_with l₀ s).frame.channels → length u ≡ left_in (fed_with l₀ s).phase → ToldLast (s ++ u) (fed_with l₀ s)
told_last {l₀} fresh s u limit some long = by l.phase refl (fed_follows fresh s (omega (arith, length-append s u)))
  where
    l : Link
    l = fed_with l₀ s

    x : Stand
    x = l.stand

    by : (p : Phase) → l.phase ≡ p → FollowsIn s l.count x l.around l.frame (given_by l₀ s) p → ToldLast (s ++ u) l
    by (head p) e q = by_tells q.tells
      where
        by_tells : Tells s l.frame x q.resumes.met → ToldLast (s ++ u) l
        by_tells (inl z) = let w : ⊥ = omega (arith, z) in absurd w
        by_tells (inr k) =
            let r = q.resumes in
            let is : s ≡ s ++ u = sym (ap (λ (z : List ℕ). s ++ z) (none-long u (long ∙ ap left_in e)) ∙ append-nil s) in
            let root : within_of x ≡ Root = ap (λ (c : Cursor). stands_in c.at c.within) k.here in
            let stands = alone (λ (z : List ℕ). Stands z r.met x) s (r.stands [] (rw root tt)) in
            record {
              before = k.before;
              many = r.many ∙ ap length k.is ∙ length-append k.before (frame_by s l.frame x ∷ []);
              accepts = within_limit (s ++ u) limit
                  ∙ subst (λ (z : List ℕ). unlimited z ≡ accepted (k.before ++ (frame_by z l.frame x ∷ []))) is (ends_there stands k.here ∙ ap accepted k.is);
              counted = subst (λ (z : List ℕ). Counts l.frame (frame_by z l.frame x)) is k.counted;
            }
    by (value tag left kept) e q = let z : ⊥ = omega (arith, q.silent) in absurd z
    by (waveform left t) e q =
        let n : length u ≡ left = long ∙ ap left_in e in
        let far : length s + left ≤ length (s ++ u) = omega (arith, length-append s u) in
        let end : length s + left ≡ length (s ++ u) = omega (arith, length-append s u) in
        let p = q.0 in
        let k = p.stands u far in
        record {
          before = p.met;
          many = p.many;
          accepts = within_limit (s ++ u) limit ∙ ends_there k.0 (p.behind ∙ ap (λ (i : ℕ). cursor i Root) end);
          counted = k.1;
        }
    by (waits left r) e q = let z : ⊥ = omega (arith, q.2) in absurd z
    by (decided a) e q = let z : ⊥ = omega (arith, q.1) in absurd z

-- ---- what is told of it

module _ (w : List ℕ) (l : Link) (p : ToldLast w l) (some : 0 < l.frame.channels) (channel : ℕ) where
  abbrev v : Waveform
  v = l.frame

  abbrev f : Frame
  f = frame_by w v l.stand

  answer-is : (x : Bool) → ltb channel v.channels ≡ x
      → pick x (answered (attributes_in channel f)) (refused_as NoChannel 0) ≡ pick x (answered (attributes_with v.start v.channels v.sequences (reported (settings_in l channel)))) (refused_as NoChannel 0)
  unfolding attributes_in
  answer-is true h =
      let c = p.counted.channels in
      let k : channel < length (channels_by v l.stand) = omega (arith, ltb-true channel v.channels h, c) in
      λ i. answered (attributes_with v.start (sym c i) v.sequences (reported (sym (settings-is v.channels l.stand.records channel k) i)))
  answer-is false h = refl

  -- The attributes that the link answers are those of the file's last frame.
  pub told_right : attributes_of w (l.stand.frames - 1) channel ≡ settings_told l channel
  unfolding attributes_of settings_told
  told_right =
      let before = p.before in
      let n : l.stand.frames - 1 ≡ length before = omega (arith, p.many) in
      let a : length before < length (before ++ (f ∷ [])) = rw length-append (omega arith) in
      let d : get_or (before ++ (f ∷ [])) (length before) zero_frame ≡ f = get_or-append_seam before f [] zero_frame in
      (λ i. asked (λ g. answered (attributes_in channel g)) (n i) channel (p.accepts i))
      ∙ simp (lt-ltb (length before) (length (before ++ (f ∷ []))) a, d, lt-ltb 0 v.channels some)
      (ap (λ (k : ℕ). pick (ltb channel k) (answered (attributes_in channel f)) (refused_as NoChannel 0)) (sym p.counted.channels) ∙ answer-is (ltb channel v.channels) refl)
