-- Totals as the frames are added to them, one after the other, and the first refusal. Assumes nothing.
use mathlib.Core.Path.{◌≡◌, refl, sym, ap, ◌∙◌}
use mathlib.Core.Bool.{Bool, true, false, cond}
use mathlib.Core.List.{List, [], ◌∷◌, ◌++◌}
use Prim.Native.Nat.{ℕ, zero, suc, ◌+◌, ◌-◌, ◌*◌, ◌^◌, ◌≤◌, ◌<◌}
use native.Mathlib.Nat.{zero-add, mul-le-mul_right, le-mul_of_pos_right}
use native.Mathlib.Omega.{arith}
use borrow.Author.Tests.{eq-eqb, ne_eqb, eqb-true, eqb-false}
use lib.Dec.{eqb, leb, leb→le}
use lib.ListN.{length, get_or, set, replicate, length-set}
use lib.Seq.{get_or-set_same, get_or-set_other, ext_get_or}
use Rattle.model.specs.Lists.{tabulate}
use Rattle.model.specs.Refusals.{refusal, row_4, row_7, accepted}
use Rattle.model.specs.Captures.{CaptureFrame, frames_to, Totals, max_drain, with_frame, totals_from, totals_of, frame_number, frames_number}
use Rattle.frames.specs.Frames.{FrameReplayed}
use Rattle.frames.specs.declared.FrameTotals.{FrameTotals}
use Rattle.drains.specs.declared.Totals.{Totals as DrainTotals}
use Rattle.model.proofs.Lists.{true-T, length_tabulate, get_d_tabulate, tabulate_split}
use Rattle.replay.specs.Totals.{held, no_frames, Free, grown, Added, Holds}

-- ---- totals
totals_last : (mask : List ℕ) (d : ℕ) (t : Totals) (fs : List CaptureFrame) (f : CaptureFrame)
    → totals_from mask d t (fs ++ f ∷ []) ≡ cond (eqb f.drain d) (with_frame mask (totals_from mask d t fs) f) (totals_from mask d t fs)
unfolding totals_from
totals_last mask d t [] f = refl
totals_last mask d t (x ∷ fs) f = totals_last mask d (cond (eqb x.drain d) (with_frame mask t x) t) fs f

-- an accepted frame's totals are added
module _ {mask : List ℕ} (fs : List CaptureFrame) (f : CaptureFrame) (t : FrameTotals) (r : FrameReplayed mask f 0 t.drain t.check t.differ t.cycles) where
  abbrev before : ℕ → DrainTotals
  before d = held (totals_of mask d fs)

  abbrev after : ℕ → DrainTotals
  after d = held (totals_of mask d (fs ++ f ∷ []))

  grown-is : (s : Totals) → grown t (held s) ≡ held (with_frame mask s f)
  unfolding with_frame
  grown-is s = λ i. record { frames = s.frames + 1; checks = s.checks + r.check-is refl i; differ = s.differ + r.differ-is refl i; cycles = s.cycles + r.cycles-is refl i }

  after-own : (d : ℕ) → d ≡ t.drain → after d ≡ grown t (before d)
  after-own d e = ap held (totals_last mask d _ fs f) ∙ rw (eq-eqb f.drain d (sym (r.drain-is refl) ∙ sym e)) (sym (grown-is (totals_of mask d fs)))

  after-other : (d : ℕ) → (d ≡ t.drain → ⊥) → after d ≡ before d
  after-other d n = ap held (totals_last mask d _ fs f) ∙ rw (ne_eqb f.drain d (λ e. n (sym e ∙ sym (r.drain-is refl))))

  pub holds_next : (ts new : List DrainTotals) → Holds mask fs ts → t.drain < 64 → Added t ts new → Holds mask (fs ++ f ∷ []) new
  holds_next ts new h lt s =
      ext_get_or no_frames new (tabulate 64 after) (long ∙ sym (length_tabulate 64 after)) (λ i h. at i (omega (arith, long, h)) (eqb i k) refl)
    where
      k : ℕ
      k = t.drain

      size : length ts ≡ 64
      size = ap length h ∙ length_tabulate 64 before

      long : length new ≡ 64
      long = ap length s ∙ length-set ts k (grown t (get_or ts k no_frames)) ∙ size

      old : (i : ℕ) → i < 64 → get_or ts i no_frames ≡ before i
      old i lt = ap (λ (v : List DrainTotals). get_or v i no_frames) h ∙ get_d_tabulate 64 before i no_frames lt

      at : (i : ℕ) → i < 64 → (b : Bool) → eqb i k ≡ b → get_or new i no_frames ≡ get_or (tabulate 64 after) i no_frames
      at i lt true e =
          let q : i ≡ k = eqb-true i k e in
          ap (λ (v : List DrainTotals). get_or v i no_frames) s ∙ ap (λ (n : ℕ). get_or (set ts k (grown t (get_or ts k no_frames))) n no_frames) q
          ∙ get_or-set_same ts k (grown t (get_or ts k no_frames)) no_frames (omega (arith, size))
          ∙ ap (grown t) (ap (λ (n : ℕ). get_or ts n no_frames) (sym q) ∙ old i lt) ∙ sym (after-own i q) ∙ sym (get_d_tabulate 64 after i no_frames lt)
      at i lt false e =
          let q : i ≡ k → ⊥ = eqb-false i k e in
          ap (λ (v : List DrainTotals). get_or v i no_frames) s ∙ get_or-set_other ts k i (grown t (get_or ts k no_frames)) no_frames q
          ∙ old i lt ∙ sym (after-other i q) ∙ sym (get_d_tabulate 64 after i no_frames lt)

-- the drain of an accepted frame
pub drain-small : (f : CaptureFrame) → frame_number f ≡ 0 → f.drain + 1 ≤ 64
unfolding frame_number refusal
drain-small f z = go (leb f.drain max_drain) refl z
  where
    go : (t : Bool) → leb f.drain max_drain ≡ t → cond t (refusal (row_4 f.sweeps ∷ row_7 f.llrs ∷ [])) 15 ≡ 0 → f.drain + 1 ≤ 64
    go true e z = omega (arith, leb→le f.drain max_drain (true-T _ e))
    go false e z = absurd (omega arith)

pub holds-long : (mask : List ℕ) (fs : List CaptureFrame) {ts : List DrainTotals} → Holds mask fs ts → length ts ≡ 64
holds-long mask fs h = ap length h ∙ length_tabulate 64 _

-- before the first frame
pub holds_none : (mask bytes : List ℕ) (N : ℕ) → Holds mask (frames_to bytes N 0) (replicate 64 no_frames)
unfolding tabulate totals_from
holds_none mask bytes N = refl

pub none_number : (bytes : List ℕ) (N : ℕ) → frames_number (frames_to bytes N 0) ≡ 0
unfolding tabulate frames_number
none_number bytes N = refl

pub later : (j count s : ℕ) → j < count → j * s + s ≤ count * s
later j count s lt = let m : (j + 1) * s ≤ count * s = mul-le-mul_right s (omega arith) in omega arith

-- ---- sizes: after j frames no total is above j times 2 ^ 32
pub record Within (most : ℕ) (t : DrainTotals) : Type 0 where
  pub frames : t.frames ≤ most
  pub checks : t.checks ≤ most
  pub differ : t.differ ≤ most
  pub cycles : t.cycles ≤ most

pub record Small (j : ℕ) (ts : List DrainTotals) : Type 0 where
  pub small : (d : ℕ) → Within (j * 2 ^ 32) (get_or ts d no_frames)

nothing-at : (n d : ℕ) → get_or (replicate n no_frames) d no_frames ≡ no_frames
nothing-at zero d = refl
nothing-at (suc n) zero = refl
nothing-at (suc n) (suc d) = nothing-at n d

pub small-none : Small 0 (replicate 64 no_frames)
small-none = record { small = λ d. rw (nothing-at 64 d) (record { frames = omega arith; checks = omega arith; differ = omega arith; cycles = omega arith }) }

-- a capture has at most 65536 frames
pub few-frames : (count s l : ℕ) → 0 < s → count * s ≤ l → l ≤ 65536 → count ≤ 65536
few-frames count s l pos h k = omega (arith, le-mul_of_pos_right count pos)

pub small-free : {j : ℕ} {ts : List DrainTotals} → Small j ts → j ≤ 65536 → Free ts
small-free s h = record { free = λ d. let w = s.small d in record { frames = omega (arith, w.frames); checks = omega (arith, w.checks); differ = omega (arith, w.differ); cycles = omega (arith, w.cycles) } }

-- a frame's own numbers have 32 bits
pub record Narrow (f : FrameTotals) : Type 0 where
  pub check : f.check ≤ 2 ^ 32
  pub differ : f.differ ≤ 2 ^ 32
  pub cycles : f.cycles ≤ 2 ^ 32

pub small-next : {j : ℕ} {ts : List DrainTotals} (new : List DrainTotals) (f : FrameTotals) → Small j ts → f.drain < length ts → Narrow f → Added f ts new → Small (j + 1) new
small-next {j} {ts} new f s lt n e = record { small = λ d. go d (eqb d f.drain) refl }
  where
    go : (d : ℕ) (b : Bool) → eqb d f.drain ≡ b → Within ((j + 1) * 2 ^ 32) (get_or new d no_frames)
    go d true t =
        let q : d ≡ f.drain = eqb-true d f.drain t in
        let w = s.small f.drain in
        rw (e, q, get_or-set_same ts f.drain (grown f (get_or ts f.drain no_frames)) no_frames lt)
        (record { frames = omega (arith, w.frames); checks = omega (arith, w.checks, n.check); differ = omega (arith, w.differ, n.differ); cycles = omega (arith, w.cycles, n.cycles) })
    go d false t =
        let q : d ≡ f.drain → ⊥ = eqb-false d f.drain t in
        let w = s.small d in
        rw (e, get_or-set_other ts f.drain d (grown f (get_or ts f.drain no_frames)) no_frames q)
        (record { frames = omega (arith, w.frames); checks = omega (arith, w.checks); differ = omega (arith, w.differ); cycles = omega (arith, w.cycles) })

-- ---- the first refusal
pub number_behind : (fs gs : List CaptureFrame) → frames_number fs ≡ 0 → frames_number (fs ++ gs) ≡ frames_number gs
unfolding frames_number
number_behind [] gs z = refl
number_behind (f ∷ fs) gs z = go (eqb (frame_number f) 0) refl z (number_behind fs gs)
  where
    go : (b : Bool) → eqb (frame_number f) 0 ≡ b → cond b (frames_number fs) (frame_number f) ≡ 0 → (frames_number fs ≡ 0 → frames_number (fs ++ gs) ≡ frames_number gs)
        → cond b (frames_number (fs ++ gs)) (frame_number f) ≡ frames_number gs
    go true e z ih = ih z
    go false e z ih = absurd (eqb-false (frame_number f) 0 e z)

module _ (F : ℕ → CaptureFrame) where
  here : (j : ℕ) → F (0 + j) ≡ F j
  here j = ap F (zero-add j)

  pub frames-last : (j : ℕ) → tabulate (j + 1) F ≡ tabulate j F ++ F j ∷ []
  unfolding tabulate
  frames-last j = tabulate_split j 1 F ∙ ap (λ (f : CaptureFrame). tabulate j F ++ f ∷ []) (here j)

  -- frame j is the first that is refused
  pub first-refused : (j count : ℕ) → j < count → frames_number (tabulate j F) ≡ 0 → (frame_number (F j) ≡ 0 → ⊥) → frames_number (tabulate count F) ≡ frame_number (F j)
  unfolding tabulate frames_number
  first-refused j count lt z n =
      ap (λ (k : ℕ). frames_number (tabulate k F)) (let e : count ≡ j + suc (count - j - 1) = omega arith in e)
      ∙ ap frames_number (tabulate_split j (suc (count - j - 1)) F)
      ∙ number_behind (tabulate j F) _ z
      ∙ ap (λ (f : CaptureFrame). accepted (frame_number f) (frames_number (tabulate (count - j - 1) (λ k. F (suc k + j)))) (frame_number f)) (here j)
      ∙ rw (ne_eqb (frame_number (F j)) 0 n)

  pub none-refused : (j : ℕ) → frames_number (tabulate j F) ≡ 0 → frame_number (F j) ≡ 0 → frames_number (tabulate (j + 1) F) ≡ 0
  unfolding frames_number
  none-refused j z e = ap frames_number (frames-last j) ∙ number_behind (tabulate j F) (F j ∷ []) z ∙ rw e
