-- A line's soft values as words, and a frame's as words with a line replaced. Assumes nothing.
use mathlib.Core.Path.{◌≡◌, sym, ap, ap₂, ◌∙◌, subst}
use mathlib.Core.Bool.{Bool}
use mathlib.Core.List.{List, map, ◌++◌, append-nil}
use Prim.Native.Nat.{ℕ, ◌*◌, ◌^◌, ◌≤◌, ◌<◌}
use native.Mathlib.Omega.{arith}
use lib.IntN.{ℤ, pos, negsuc, nat_abs}
use lib.ListN.{length, get_or, get_or-map, take, drop, drop_of_length-le}
use lib.Pow.{pow_mono}
use lib.Seq.{ext_get_or, take_at, length-take-le}
use lib.Signed.{mag}
use Rattle.model.specs.Lists.{tabulate, over}
use Rattle.model.specs.Soft.{Soft, finite, soft_zero, ◌at◌, soft_of, word_of, max_llr}
use Rattle.model.proofs.Lists.{length_tabulate, get_d_tabulate, tabulate_ext}
use Rattle.model.proofs.Flips.{length-soft}
use Rattle.words.specs.Words.{word, stored}
use Rattle.scan.proofs.Rounds.{tabulate_map}
use Rattle.decisions.proofs.Reading.{write-front}
use Rattle.clamped.proofs.Clamps.{sum_back}
use Rattle.model.specs.Square.{Direction, place_of, with_line, clamped_sum, Frame, soft_from, other, line_inputs, line_soft, decode_line, decode_lines, up_to, half_iteration}
use Rattle.model.proofs.SquareLines.{place-below, with_line-map}
use Rattle.model.proofs.HalfIterations.{own-step, other_step, sums-long, sums_are, up-to_all}
use Rattle.model.proofs.SquareBytes.{clamped-size}
use Rattle.square_lines.specs.Frames.{LlrsAll, Ready, clamped_sums, line_from, Stored}

-- a list of n elements that is overwritten by as many
pub overwritten : {A : Type 0} (n : ℕ) (f : ℕ → A) (old : List A) → length old ≡ n → over (tabulate n f) old ≡ tabulate n f
unfolding over
overwritten {A} n f old e =
    let past : length old ≤ length (tabulate n f) = omega (arith, e, length_tabulate n f) in
    ap (λ (l : List A). tabulate n f ++ l) (drop_of_length-le old past) ∙ append-nil (tabulate n f)

-- N is at most 32
pub few-lines : {mask plan : List ℕ} {ones : Bool} {n words : ℕ} → Ready mask plan ones n words → length mask ≤ 32
few-lines r = let most : 2 ^ _ ≤ 2 ^ 5 = pow_mono r.low in omega (arith, most, r.sized)

-- a buffer of N words that the soft values of a line were stored in
pub soft-stored : (w : List ℤ) (n : ℕ) (mask : List ℕ) (inputs : List ℤ) → length mask ≡ 2 ^ n → length w ≡ length mask
    → stored w 0 (length mask) (line_soft n mask inputs) ≡ map word_of (line_soft n mask inputs)
soft-stored w n mask inputs sized long =
    let M : List Soft = line_soft n mask inputs in
    let N : ℕ = length mask in
    write-front (pos 0) w N (λ k. word_of (M at k)) (omega (arith, long)) ∙ overwritten N (λ k. word_of (M at k)) w long
    ∙ ap (λ (m : ℕ). tabulate m (λ k. word_of (M at k))) (sized ∙ sym (length-soft n mask (map finite inputs) 1)) ∙ tabulate_map word_of M soft_zero

-- an LLR fits its 16 bits
llr-fits : (z : ℤ) → nat_abs z ≤ max_llr → mag z < 2 ^ 15
llr-fits (pos n) h = omega arith
llr-fits (negsuc n) h = omega arith

-- ---- a line of a frame
pub length-line : (by : Direction) (N : ℕ) (frame : List ℤ) (i : ℕ) → length (line_from by N frame i) ≡ N
unfolding line_from
length-line by N frame i = length_tabulate N _

pub line-llrs : (by : Direction) (N : ℕ) (frame : List ℤ) (i : ℕ) → length frame ≡ N * N → i < N → LlrsAll frame → LlrsAll (line_from by N frame i)
unfolding line_from
line-llrs by N frame i places line range k lt =
    let below : k < N = subst (λ (m : ℕ). k < m) (length_tabulate N _) lt in
    subst (λ (z : ℤ). nat_abs z ≤ max_llr) (sym (get_d_tabulate N (λ k. word frame (place_of by N i k)) k (pos 0) below))
    (range (place_of by N i k) (subst (λ (m : ℕ). place_of by N i k < m) (sym places) (place-below by N i k line below)))

-- a line that was gathered into the front of a longer array
pub lent-llrs : (by : Direction) (zeros made : List ℤ) (N : ℕ) (frame : List ℤ) (i : ℕ) → N ≤ length zeros → made ≡ line_from by (length (take N zeros)) frame i
    → length frame ≡ N * N → i < N → LlrsAll frame → LlrsAll (take N (made ++ drop N zeros))
lent-llrs by zeros made N frame i few e places line range =
    let made-is : made ≡ line_from by N frame i = e ∙ ap (λ (m : ℕ). line_from by m frame i) (length-take-le N zeros few) in
    subst LlrsAll (sym (take_at made (drop N zeros) N (ap length made-is ∙ length-line by N frame i) ∙ made-is)) (line-llrs by N frame i places line range)

-- ---- a half-iteration, from what is stored
module _ (by : Direction) (n : ℕ) (mask : List ℕ) (channel others : List ℤ) (sized : length mask ≡ 2 ^ n) (places : length channel ≡ length mask * length mask) (range : LlrsAll channel) where
  abbrev N : ℕ
  N = length mask

  -- the inputs of all lines
  abbrev pub inputs : List ℤ
  inputs = clamped_sums channel others

  pub inputs_long : length inputs ≡ N * N
  unfolding clamped_sums
  inputs_long = length_tabulate (length channel) _ ∙ places

  input_at : (p : ℕ) → p < N * N → word inputs p ≡ clamped_sum (word channel p) (soft_of (word others p))
  unfolding clamped_sums
  input_at p lt = get_d_tabulate (length channel) _ p (pos 0) (subst (λ (m : ℕ). p < m) (sym places) lt)

  pub inputs-llrs : LlrsAll inputs
  inputs-llrs p lt = subst (λ (z : ℤ). nat_abs z ≤ max_llr) (sym (input_at p (subst (λ (m : ℕ). p < m) inputs_long lt))) (clamped-size _)

  module _ (s : Frame) (others_are : others ≡ map word_of (soft_from (other by) s)) where
    -- place by place they are the frame's
    input_is : (p : ℕ) → p < N * N → word inputs p ≡ clamped_sum (word channel p) (soft_from (other by) s at p)
    input_is p lt =
        input_at p lt
        ∙ ap (λ (w : ℤ). clamped_sum (word channel p) (soft_of w)) (ap (λ (l : List ℤ). word l p) others_are ∙ get_or-map word_of (soft_from (other by) s) p soft_zero)
        ∙ sum_back (word channel p) (llr-fits (word channel p) (range p (subst (λ (m : ℕ). p < m) (sym places) lt))) (soft_from (other by) s at p)

    line-is : (i : ℕ) → i < N → line_from by N inputs i ≡ line_inputs by (2 ^ n) channel s i
    unfolding line_from line_inputs
    line-is i line =
        tabulate_ext N _ _ (λ k lt. input_is (place_of by N i k) (place-below by N i k line lt))
        ∙ ap (λ (m : ℕ). tabulate m (λ k. clamped_sum (get_or channel (place_of by m i k) (pos 0)) (soft_from (other by) s at place_of by m i k))) sized

    -- one line more
    pub line-decoded : (i : ℕ) → i < N → (own own' : List ℤ) → own ≡ map word_of (soft_from by s) → own' ≡ with_line (pos 0) by N i (map word_of (line_soft n mask (line_from by N inputs i))) own
        → Stored by (decode_line by n mask channel i s) others own'
    line-decoded i line own own' held e = record {
      others_are = others_are ∙ ap (map word_of) (sym (other_step by n mask channel i s));
      own_is = e ∙ ap₂ (λ (m : ℕ) (l : List ℤ). with_line (pos 0) by m i (map word_of (line_soft n mask (line_from by N inputs i))) l) sized held
          ∙ ap (λ (l : List ℤ). with_line (pos 0) by (2 ^ n) i (map word_of (line_soft n mask l)) (map word_of (soft_from by s))) (line-is i line)
          ∙ sym (with_line-map word_of soft_zero by (2 ^ n) i (line_soft n mask (line_inputs by (2 ^ n) channel s i)) (soft_from by s))
          ∙ ap (map word_of) (sym (own-step by n mask channel i s));
    }

    -- all lines: the sums
    pub sums-made : (own' : List ℤ) → own' ≡ map word_of (soft_from by (half_iteration by n mask channel s)) → (half_iteration by n mask channel s).sums ≡ clamped_sums inputs own'
    unfolding half_iteration clamped_sums
    sums-made own' held =
        ext_get_or (pos 0) after.sums (clamped_sums inputs own') (long ∙ sym (length_tabulate (length inputs) _ ∙ inputs_long ∙ ap₂ ◌*◌ sized sized))
        (λ p lt. let far : p < 2 ^ n * 2 ^ n = subst (λ (m : ℕ). p < m) long lt in
        let below : p < N * N = subst (λ (m : ℕ). p < m * m) (sym sized) far in
        let inside : p < length inputs = subst (λ (m : ℕ). p < m) (sym inputs_long) below in
        sums_are by n mask channel (up_to (2 ^ n)) (up-to_all (2 ^ n)) s p far
        ∙ ap (λ (z : ℤ). clamped_sum z (soft_from by after at p)) (sym (input_is p below))
        ∙ sym (sum_back (word inputs p) (llr-fits (word inputs p) (inputs-llrs p inside)) (soft_from by after at p))
        ∙ ap (λ (w : ℤ). clamped_sum (word inputs p) (soft_of w)) (sym (ap (λ (l : List ℤ). word l p) held ∙ get_or-map word_of (soft_from by after) p soft_zero))
        ∙ sym (get_d_tabulate (length inputs) (λ q. clamped_sum (word inputs q) (soft_of (word own' q))) p (pos 0) inside))
      where
        after : Frame
        after = decode_lines by n mask channel (up_to (2 ^ n)) s

        long : length after.sums ≡ 2 ^ n * 2 ^ n
        long = sums-long by n mask channel (up_to (2 ^ n)) (up-to_all (2 ^ n)) s

-- all lines decoded
pub whole : (by : Direction) (n : ℕ) (mask : List ℕ) (channel others own : List ℤ) (s : Frame) {k : ℕ} → k ≡ 2 ^ n → Stored by (decode_lines by n mask channel (up_to k) s) others own → Stored by (half_iteration by n mask channel s) others own
unfolding half_iteration
whole by n mask channel others own s e held = subst (λ (m : ℕ). Stored by (decode_lines by n mask channel (up_to m) s) others own) e held
