-- The line program: what it prints for the bytes it has read. Assumes nothing.
use Rattle.std.specs.Prelude.{List, map, ℕ, ◌+◌, ◌*◌, ℤ, length}
use Rattle.model.specs.Soft.{finite}
use Rattle.model.specs.Scan.{decode_scan}
use Rattle.model.specs.Plans.{cycles, planner_plan}
use Rattle.model.specs.Refusals.{exponent, accepted}
use Rattle.fields.specs.Grammar.{Reading, read_line}
use Rattle.reader.specs.Answers.{mask_of, sweeps_of, llrs_of, line_number}
use Rattle.printer.specs.Text.{ok_text, no_text}

-- a decode along a plan: its cycles, and SCAN's answer for the mask, the sweeps and the LLRs
abbrev pub decode_text : List ℕ → List ℕ → ℕ → List ℤ → List ℕ
decode_text plan mask sweeps llrs =
    let n : ℕ = exponent (length mask) in
    ok_text (sweeps * cycles plan n 1 mask) (decode_scan n mask (map finite llrs) sweeps)

-- it uses the planner's plan
abbrev pub planned_text : List ℕ → ℕ → List ℤ → List ℕ
planned_text mask sweeps llrs = decode_text (planner_plan (exponent (length mask)) mask) mask sweeps llrs

-- the answer to what a line says
unfoldable pub reply_text : Reading → List ℕ
reply_text line = accepted (line_number line) (planned_text (mask_of line) (sweeps_of line) (llrs_of line)) (no_text (line_number line))

-- the answer to the bytes that were read
unfoldable pub answer_text : List ℕ → List ℕ
answer_text bytes = reply_text (read_line bytes)

-- no answer has more bytes than this: 12 for each of 1024 soft values, one for each hard bit and payload bit, and 25 for the rest
abbrev pub max_text : ℕ
max_text = 12 * 1024 + 1024 + 1024 + 25
