-- What the steps of reading a line answer and store. Assumes nothing.
use Rattle.std.specs.Prelude.{◌≡◌, Bool, true, cond, List, [], ◌∷◌, map, ℕ, ◌<◌, ◌≤◌, ℤ, length, take, get_or, Option}
use Rattle.std.specs.Borrow.{Bor}
use Rattle.std.specs.Option.{MatchOption}
use Rattle.std.specs.declared.option.Option.TheVariants.{Some, None}
use Rattle.std.proofs.lemmas.List.Edits.{sets}
use Rattle.model.specs.Lists.{at_most}
use Rattle.model.specs.Encoding.{max_mask}
use Rattle.model.specs.Refusals.{test, refusal, row_1, row_3, row_4, exponent, max_sweeps, llrs_in_range}
use Rattle.fields.specs.Grammar.{digit, value, all_numbers, fields, Reading, malformed, reading, read_fields}
use Rattle.reader.specs.declared.Llrs.{Llrs}
use Rattle.reader.specs.declared.Parts.{Parts}
use Rattle.reader.specs.Answers.{mask_of, llrs_of, count, line_number, line_size, line_sweeps}

-- the first two fields
abbrev pub FirstFields : List (List ℕ) → Option (Bor (List ℕ) × Bor (List ℕ)) → Type 0
FirstFields fs answer = MatchOption answer (length fs ≤ 1) (λ p. (1 < length fs) × (p.0.now ≡ get_or fs 0 []) × (p.1.now ≡ get_or fs 1 []))

-- fields as LLRs: how many, and whether all are within ±32767; none if one is no number
unfoldable pub llrs_read : List (List ℕ) → Option Llrs
llrs_read fs = cond (all_numbers fs) (Some (record { count = length fs; in_range = llrs_in_range (map value fs) })) None

-- what reading fields as LLRs answers; if all are within ±32767 they stand at the array's front, as far as there is room
pub record ReadLlrs (fs : List (List ℕ)) (before after : List ℤ) (answer : Option Llrs) : Type 0 where
  pub is : answer ≡ llrs_read fs
  pub stored : all_numbers fs ≡ true → llrs_in_range (map value fs) ≡ true → after ≡ sets before 0 (map value fs)

-- the rows of `line_number`, by the number of mask digits, whether they are mask bytes, the sweeps, the number of LLRs, whether those are in range
unfoldable pub fields_number : ℕ → Bool → ℕ → ℕ → Bool → ℕ
fields_number digits bytes sweeps llrs in_range =
    refusal (row_1 digits ∷ test 2 bytes ∷ row_3 llrs digits ∷ row_4 sweeps ∷ test 7 in_range ∷ [])

-- what these rows read off a line
abbrev pub parts_of : Reading → Option Parts
parts_of malformed = None
parts_of (reading mask sweeps llrs) = Some (record { digits = length mask; bytes = at_most max_mask mask; sweeps = count sweeps; llrs = length llrs; in_range = llrs_in_range llrs })

-- a well-formed line has its mask's digits at the front, and LLRs that are in range stand at the array's
pub record Fronts (line : List ℕ) (before after : List ℤ) (digits : ℕ) (in_range : Bool) : Type 0 where
  pub within : digits ≤ length line
  pub mask : map digit (take digits line) ≡ mask_of (read_fields (fields line))
  pub stored : in_range ≡ true → after ≡ sets before 0 (llrs_of (read_fields (fields line)))

-- what is answered of a line
pub record Answered (line : Reading) (number size sweeps : ℕ) : Type 0 where
  pub number_is : number ≡ line_number line
  pub size_is : size ≡ line_size line
  pub sweeps_are : sweeps ≡ line_sweeps line

-- ---- what the tests of a line let through: a mask, sweeps and LLRs
pub record Fit (mask : List ℕ) (sweeps : ℕ) (llrs : List ℤ) : Type 0 where
  pub allowed : exponent (length mask) ≡ 0 → ⊥
  pub small : length mask ≤ 1024
  pub bytes : at_most max_mask mask ≡ true
  pub same : length llrs ≡ length mask
  pub some : 1 ≤ sweeps
  pub most : sweeps ≤ max_sweeps
  pub range : llrs_in_range llrs ≡ true
