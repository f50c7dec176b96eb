-- A decode's call, and what it answers and leaves. Assumes nothing.
use Rattle.std.specs.Prelude.{◌≡◌, List, ℕ, ℤ, length}
use Rattle.model.specs.Refusals.{DecodeCall, decode_number, decode_cycles, decode_check, decode_undecided, decode_soft, decode_hard, decode_payload, decode_work}

-- the buffers that a decode is lent: soft values, hard word, payload, workspace
pub record Lent : Type 0 where
  pub soft : List ℤ
  pub hard : List ℕ
  pub payload : List ℕ
  pub work : List ℤ

-- such buffers by their contents
abbrev pub lent : List ℤ → List ℕ → List ℕ → List ℤ → Lent
lent soft hard payload work = record { soft = soft; hard = hard; payload = payload; work = work }

-- a call's inputs and its buffers
pub record Given : Type 0 where
  pub mask : List ℕ
  pub plan : List ℕ
  pub sweeps : ℕ
  pub llrs : List ℤ
  pub buffers : Lent

-- such a call by its parts
abbrev pub given : List ℕ → List ℕ → ℕ → List ℤ → Lent → Given
given mask plan sweeps llrs buffers = record { mask = mask; plan = plan; sweeps = sweeps; llrs = llrs; buffers = buffers }

-- the definitions look at the lengths of the buffers only
abbrev pub call_of : Given → DecodeCall
call_of g =
    record {
      mask = g.mask;
      plan = g.plan;
      sweeps = g.sweeps;
      llrs = g.llrs;
      soft_room = length g.buffers.soft;
      hard_room = length g.buffers.hard;
      payload_room = length g.buffers.payload;
      words = length g.buffers.work;
    }

-- what a decode leaves in its buffers
pub record Left (g : Given) (after : Lent) : Type 0 where
  pub soft-is : after.soft ≡ decode_soft (call_of g) g.buffers.soft
  pub hard-is : after.hard ≡ decode_hard (call_of g) g.buffers.hard
  pub payload-is : after.payload ≡ decode_payload (call_of g) g.buffers.payload
  pub work-is : after.work ≡ decode_work (call_of g) g.buffers.work

-- what it answers and leaves
pub record Outcome (g : Given) (after : Lent) (number cycles check undecided : ℕ) : Type 0 where
  pub number_is : number ≡ decode_number (call_of g)
  pub cycles-is : cycles ≡ decode_cycles (call_of g)
  pub check-is : check ≡ decode_check (call_of g)
  pub undecided-is : undecided ≡ decode_undecided (call_of g)
  pub left : Left g after
