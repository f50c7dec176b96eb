-- What a decode in an order answers and leaves. Assumes nothing.
use Rattle.std.specs.Prelude.{◌≡◌, ℕ}
use Rattle.model.specs.Sent.{decode_number_in, decode_cycles_in, decode_check_in, decode_undecided_in, decode_soft_in, decode_hard_in, decode_payload_in, decode_work_in}
use Rattle.decode.specs.Calls.{Lent, Given, call_of}

-- what it leaves in its buffers
pub record LeftIn (order : ℕ) (g : Given) (after : Lent) : Type 0 where
  pub soft-is : after.soft ≡ decode_soft_in order (call_of g) g.buffers.soft
  pub hard-is : after.hard ≡ decode_hard_in order (call_of g) g.buffers.hard
  pub payload-is : after.payload ≡ decode_payload_in order (call_of g) g.buffers.payload
  pub work-is : after.work ≡ decode_work_in order (call_of g) g.buffers.work

-- what it answers and leaves
pub record OutcomeIn (order : ℕ) (g : Given) (after : Lent) (number cycles check undecided : ℕ) : Type 0 where
  pub number_is : number ≡ decode_number_in order (call_of g)
  pub cycles-is : cycles ≡ decode_cycles_in order (call_of g)
  pub check-is : check ≡ decode_check_in order (call_of g)
  pub undecided-is : undecided ≡ decode_undecided_in order (call_of g)
  pub left : LeftIn order g after
