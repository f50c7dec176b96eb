-- The loop that reads the LLRs: what was read and the fields that are left give the answer and the array. Assumes nothing.
use mathlib.Core.Path.{◌≡◌, refl, sym, ap, ◌∙◌}
use mathlib.Core.Bool.{Bool, true, false, cond, ◌&&◌}
use mathlib.Core.List.{List, [], map}
use Prim.Native.Nat.{ℕ, suc, ◌+◌, ◌≤◌, ◌<◌}
use native.Mathlib.Nat.{add-zero}
use native.Mathlib.Numerals.{add-one}
use native.Mathlib.Omega.{arith}
use lib.IntN.{ℤ}
use lib.ListN.{length, set, get_or, drop, drop_of_length-le}
use lib.Seq.{sets, drop-cons}
use lib.Dec.{eqb}
use Rattle.std.specs.Prelude.{Option}
use Rattle.std.specs.List.{slice_split}
use Rattle.std.proofs.lemmas.List.{get_or_default}
use Rattle.std.specs.declared.option.Option.TheVariants.{Some, None}
use Rattle.model.specs.Refusals.{is_llr, llrs_in_range}
use Rattle.model.proofs.Lists.{and_assoc, and-true}
use Rattle.fields.specs.Grammar.{fields, is_number, value, all_numbers}
use Rattle.fields.specs.Steps.{read_number}
use Rattle.fields.proofs.Split.{and_both, fields_are}
use Rattle.reader.specs.declared.Llrs.{Llrs}
use Rattle.reader.specs.Steps.{llrs_read, ReadLlrs}

-- the answer after k LLRs, all within ±32767 or not, with the fields fs to come
unfoldable pub llrs_from : ℕ → Bool → List (List ℕ) → Option Llrs
llrs_from k ok fs = cond (all_numbers fs) (Some (record { count = k + length fs; in_range = ok && llrs_in_range (map value fs) })) None

-- whether the LLRs of an answer are in range
abbrev within : Option Llrs → Bool
within None = true
within (Some x) = x.in_range

-- k of the fields are read
pub record Going (fs : List (List ℕ)) (before now : List ℤ) (k : ℕ) (ok : Bool) : Type 0 where
  pub kept : length now ≡ length before
  pub answer : llrs_from k ok (drop k fs) ≡ llrs_read fs
  pub stored : ok ≡ true → sets now k (map value (drop k fs)) ≡ sets before 0 (map value fs)

pub going_start : (fs : List (List ℕ)) (l : List ℤ) → Going fs l l 0 true
unfolding llrs_from llrs_read
going_start fs l = let e : 0 + length fs ≡ length fs = omega arith in record { kept = refl; answer = rw e; stored = λ t. refl }

-- what a field says, by what was read of it
module _ (s : List ℕ) where
  pub says-value : (z : ℤ) → Some z ≡ read_number s → (is_number s ≡ true) × (z ≡ value s)
  unfolding read_number
  says-value z = go (is_number s)
    where
      go : (t : Bool) → Some z ≡ cond t (Some (value s)) None → (t ≡ true) × (z ≡ value s)
      go true p = (refl, cc)
      go false p = let w : ⊥ = cc in absurd w

  pub says_none : None ≡ read_number s → is_number s ≡ false
  unfolding read_number
  says_none = go (is_number s)
    where
      go : (t : Bool) → None ≡ cond t (Some (value s)) None → t ≡ false
      go true p = let w : ⊥ = cc in absurd w
      go false p = refl

-- a field behind the first two, as std's `split` yields it
pub field-here : (line : List ℕ) (k : ℕ) (x : List ℕ) {i : ℕ} → let fs = drop 2 (slice_split (λ b. eqb b 32) line) in
    (i < length fs) × (x ≡ get_or fs i x) → k ≡ i → (k < length (drop 2 (fields line))) × (x ≡ get_or (drop 2 (fields line)) k [])
field-here line k x t e =
    let p = rw fields_are at t in
    let h : k < length (drop 2 (fields line)) = omega (arith, p.0) in
    (h, p.1 ∙ rw (← e) (get_or_default (drop 2 (fields line)) k x [] h))

module _ {fs : List (List ℕ)} {before now : List ℤ} {k : ℕ} {ok : Bool} (g : Going fs before now k ok) where
  -- the next field is a number, z
  module _ (h : k < length fs) (z : ℤ) (v : Some z ≡ read_number (get_or fs k [])) (ok' : Bool) (b : ok' ≡ (ok && is_llr z))
      (after : List ℤ) (m : length after ≡ length now) (w : is_llr z ≡ true → after ≡ set now k z) where
    says : (is_number (get_or fs k []) ≡ true) × (z ≡ value (get_or fs k []))
    says = says-value (get_or fs k []) z v

    answer_on : llrs_from (k + 1) ok' (drop (k + 1) fs) ≡ llrs_from k ok (drop k fs)
    unfolding llrs_from all_numbers llrs_in_range
    answer_on =
        let n : suc k + length (drop (suc k) fs) ≡ k + suc (length (drop (suc k) fs)) = omega arith in
        rw (drop-cons fs k [] h, add-one k, says.0, n, b, says.1, and_assoc ok (is_llr (value (get_or fs k []))) (llrs_in_range (map value (drop (suc k) fs))))

    stored_on : ok' ≡ true → sets after (k + 1) (map value (drop (k + 1) fs)) ≡ sets before 0 (map value fs)
    stored_on t =
        let both = and_both ok (is_llr z) (sym b ∙ t) in
        rw (w both.1, says.1, add-one k) (ap (λ (r : List (List ℕ)). sets now k (map value r)) (sym (drop-cons fs k [] h)) ∙ g.stored both.0)

    pub going_on : Going fs before after (k + 1) ok'
    going_on = record { kept = m ∙ g.kept; answer = answer_on ∙ g.answer; stored = stored_on }

  -- it is none
  pub going_bad : k < length fs → None ≡ read_number (get_or fs k []) → ReadLlrs fs before now None
  unfolding llrs_from llrs_read all_numbers
  going_bad h v =
      let e : None ≡ llrs_read fs = rw (drop-cons fs k [] h, says_none (get_or fs k []) v) at g.answer in
      record {
        is = e;
        stored = λ a r. let t : llrs_read fs ≡ Some (record { count = length fs; in_range = llrs_in_range (map value fs) }) = rw a in let w : ⊥ = cc in absurd w;
      }

  -- none is left
  pub going_end : length fs ≤ k → ReadLlrs fs before now (Some (record { count = k; in_range = ok }))
  unfolding llrs_from llrs_read all_numbers llrs_in_range
  going_end h =
      let e : drop k fs ≡ [] = drop_of_length-le fs h in
      let is : Some (record { count = k; in_range = ok }) ≡ llrs_read fs = rw (e, add-zero k, and-true ok) at g.answer in
      record {
        is = is;
        stored = λ a r.
            let t : llrs_read fs ≡ Some (record { count = length fs; in_range = true }) = rw (a, r) in
            let o : ok ≡ true = ap within (is ∙ t) in
            ap (λ (r : List (List ℕ)). sets now k (map value r)) (sym e) ∙ g.stored o;
      }
