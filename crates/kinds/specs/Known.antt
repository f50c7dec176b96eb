-- Nodes whose message does not depend on what they are handed. Assumes nothing.
use Rattle.std.specs.Prelude.{◌≡◌, Bool, true, false, ◌&&◌, List, ℕ, Option, Some, None}
use Rattle.model.specs.Kinds.{rate_0, rate_1, kind_of, is_kind}
use Rattle.model.specs.Plans.{is_cut}
use Rattle.kinds.specs.declared.FixedMessage.{FixedMessage}
use Rattle.kinds.specs.declared.FixedMessage.TheVariants.{Certain, Zero}

-- what the code finds, as two tests: ∞ everywhere, and 0 everywhere
abbrev pub is_certain : Option FixedMessage → Bool
is_certain (Some Certain) = true
is_certain (Some Zero) = false
is_certain None = false

abbrev pub is_zero : Option FixedMessage → Bool
is_zero (Some Certain) = false
is_zero (Some Zero) = true
is_zero None = false

-- what is known of node p's message whatever the node is handed, a mask byte 2 being read as 1: whether it is ∞ everywhere, as a cut rate-0 node's is,
-- or 0 everywhere, as a cut rate-1 node's
pub record FixedAs (plan : List ℕ) (m p : ℕ) (mask : List ℕ) (certain zero : Bool) : Type 0 where
  pub as_certain : certain ≡ (is_cut plan p && is_kind rate_0 (kind_of m mask))
  pub as_zero : zero ≡ (is_cut plan p && is_kind rate_1 (kind_of m mask))
