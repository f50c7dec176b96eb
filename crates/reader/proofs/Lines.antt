-- A line by its fields: what is read off it, and where its mask and LLRs stand. Assumes nothing.
use mathlib.Core.Path.{◌≡◌, refl, sym, ap, ◌∙◌}
use mathlib.Core.Bool.{Bool, true, false, cond}
use mathlib.Core.List.{List, [], ◌∷◌, map}
use Prim.Native.Nat.{ℕ, ◌≤◌, ◌<◌}
use native.Mathlib.Omega.{arith}
use borrow.Author.Tests.{le-leb, lt-leb, leb-true, leb-false}
use lib.Dec.{leb}
use lib.IntN.{ℤ}
use lib.ListN.{length, take, drop, get_or, length-map, length-take}
use lib.Seq.{sets}
use Rattle.std.specs.Prelude.{Option}
use Rattle.std.specs.declared.option.Option.TheVariants.{Some, None}
use Rattle.model.specs.Lists.{at_most}
use Rattle.model.specs.Encoding.{max_mask}
use Rattle.model.specs.Refusals.{llrs_in_range}
use Rattle.fields.specs.Grammar.{fields, is_digits, digit, is_number, value, all_numbers, reading, read_fields}
use Rattle.std.proofs.Math.Bool.{and-false}
use Rattle.fields.proofs.Split.{first-field}
use Rattle.reader.specs.declared.Llrs.{Llrs}
use Rattle.reader.specs.Answers.{count, mask_of, llrs_of}
use Rattle.reader.specs.Steps.{llrs_read, ReadLlrs, parts_of, Fronts}

-- ---- what reading fields as LLRs tells of them
module _ (fs : List (List ℕ)) where
  llrs_broken : None ≡ llrs_read fs → all_numbers fs ≡ false
  unfolding llrs_read
  llrs_broken = go (all_numbers fs)
    where
      go : (t : Bool) → ◌≡◌ {A = Option Llrs} None (cond t (Some (record { count = length fs; in_range = llrs_in_range (map value fs) })) None) → t ≡ false
      go true p = let z : ⊥ = cc in absurd z
      go false p = refl

  llrs-numbers : (x : Llrs) → Some x ≡ llrs_read fs → (all_numbers fs ≡ true) × (x ≡ record { count = length fs; in_range = llrs_in_range (map value fs) })
  unfolding llrs_read
  llrs-numbers x = go (all_numbers fs)
    where
      go : (t : Bool) → Some x ≡ cond t (Some (record { count = length fs; in_range = llrs_in_range (map value fs) })) None
          → (t ≡ true) × (x ≡ record { count = length fs; in_range = llrs_in_range (map value fs) })
      go true p = (refl, cc)
      go false p = let z : ⊥ = cc in absurd z

-- the digits of bytes are at most 2 exactly if the bytes are at most `2`
digits-test : (t : List ℕ) → at_most 50 t ≡ at_most max_mask (map digit t)
unfolding at_most
digits-test [] = refl
digits-test (b ∷ t) = rw (digits-test t, same b)
  where
    same : (b : ℕ) → leb b 50 ≡ leb (digit b) max_mask
    same b = go (leb b 50) refl
      where
        go : (x : Bool) → leb b 50 ≡ x → x ≡ leb (digit b) max_mask
        go true q = sym (le-leb (digit b) max_mask (omega (arith, leb-true b 50 q)))
        go false q = sym (lt-leb (digit b) max_mask (omega (arith, leb-false b 50 q)))

-- ---- a line by its fields
module _ (fs : List (List ℕ)) where
  pub few_fields : length fs ≤ 1 → None ≡ parts_of (read_fields fs)
  unfolding read_fields
  few_fields = go fs
    where
      go : (fs : List (List ℕ)) → length fs ≤ 1 → None ≡ parts_of (read_fields fs)
      go [] h = refl
      go (m ∷ []) h = refl
      go (m ∷ (w ∷ ls)) h = absurd (omega arith)

  module _ (h : 1 < length fs) where
    two-fields : fs ≡ get_or fs 0 [] ∷ (get_or fs 1 [] ∷ drop 2 fs)
    two-fields = go fs h
      where
        go : (fs : List (List ℕ)) → 1 < length fs → fs ≡ get_or fs 0 [] ∷ (get_or fs 1 [] ∷ drop 2 fs)
        go [] h = absurd (omega arith)
        go (m ∷ []) h = absurd (omega arith)
        go (m ∷ (w ∷ ls)) h = refl

    pub bad-mask : is_digits (get_or fs 0 []) ≡ false → None ≡ parts_of (read_fields fs)
    unfolding read_fields
    bad-mask d = rw (two-fields, d)

    pub bad-sweeps : is_number (get_or fs 1 []) ≡ false → None ≡ parts_of (read_fields fs)
    unfolding read_fields all_numbers
    bad-sweeps n = rw (two-fields, n, and-false (is_digits (get_or fs 0 [])))

    pub bad-llrs : None ≡ llrs_read (drop 2 fs) → None ≡ parts_of (read_fields fs)
    unfolding read_fields all_numbers
    bad-llrs b = rw (two-fields, llrs_broken (drop 2 fs) b, and-false (is_number (get_or fs 1 [])), and-false (is_digits (get_or fs 0 [])))

    -- all are well-formed
    module _ (d : is_digits (get_or fs 0 []) ≡ true) (w : is_number (get_or fs 1 []) ≡ true) (x : Llrs) (l : Some x ≡ llrs_read (drop 2 fs)) where
      read : read_fields fs ≡ reading (map digit (get_or fs 0 [])) (value (get_or fs 1 [])) (map value (drop 2 fs))
      unfolding read_fields all_numbers
      read = rw (two-fields, d, w, (llrs-numbers (drop 2 fs) x l).0)

      module _ (m : List ℕ) (e : m ≡ get_or fs 0 []) where
        pub all-parts : (bytes : Bool) → bytes ≡ at_most 50 m → (sweeps : ℕ) → sweeps ≡ count (value (get_or fs 1 []))
            → Some (record { digits = length m; bytes = bytes; sweeps = sweeps; llrs = x.count; in_range = x.in_range }) ≡ parts_of (read_fields fs)
        all-parts bytes b sweeps s =
            rw (read, b, s, e, (llrs-numbers (drop 2 fs) x l).1, digits-test (get_or fs 0 []), length-map (get_or fs 0 []) digit, length-map (drop 2 fs) value)

        pub all-fronts : (line : List ℕ) → fs ≡ fields line → (before after : List ℤ) → ReadLlrs (drop 2 fs) before after (Some x) → Fronts line before after (length m) x.in_range
        all-fronts line f before after r =
            let n = llrs-numbers (drop 2 fs) x l in
            let same : read_fields (fields line) ≡ reading (map digit (get_or fs 0 [])) (value (get_or fs 1 [])) (map value (drop 2 fs)) = ap read_fields (sym f) ∙ read in
            let front : take (length m) line ≡ m = rw (e, f) (first-field line) in
            record {
              within = omega (arith, ap length front, length-take (length m) line);
              mask = ap (map digit) (front ∙ e) ∙ sym (ap mask_of same);
              stored = λ t. r.stored n.0 (sym (ap (λ (y : Llrs). y.in_range) n.1) ∙ t) ∙ ap (sets before 0) (sym (ap llrs_of same));
            }
