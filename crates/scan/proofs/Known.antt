-- Children whose message is known whatever they are handed. Assumes nothing.
use mathlib.Core.Path.{◌≡◌, refl, sym, ap, ◌∙◌, subst}
use mathlib.Core.Bool.{Bool, true, false, ◌&&◌, ◌||◌}
use mathlib.Core.Option.{Option, none, some}
use mathlib.Core.List.{List}
use Prim.Native.Nat.{ℕ, ◌^◌, ◌<◌}
use borrow.Author.Tests.{eqb-true}
use lib.Dec.{T}
use lib.ListN.{get_or}
use Rattle.model.specs.Soft.{Soft, certain, soft_zero, ◌at◌}
use Rattle.model.specs.Scan.{Tree, message}
use Rattle.model.specs.Lists.{tabulate}
use Rattle.model.specs.Kinds.{Kind, rate_0, rate_1, REP, SPC, type_I, type_III, type_II, type_IV, order, row, is_kind, kind_of, shortcut}
use Rattle.model.specs.Plans.{is_cut, is_rate01, walk}
use Rattle.model.specs.Encoding.{frozen_to_zero}
use Rattle.model.proofs.Lists.{get_d_tabulate}
use Rattle.model.proofs.PlannedWalk.{message-put}
use Rattle.model.proofs.FlippedWalk.{put_column, plain-cut}
use Rattle.std.specs.Prelude as std
use Rattle.std.specs.Prelude.{Some, None}
use Rattle.kinds.specs.declared.FixedMessage.{FixedMessage}
use Rattle.kinds.specs.declared.FixedMessage.TheVariants.{Certain, Zero}
use Rattle.kinds.specs.Known.{FixedAs, is_certain, is_zero}
use Rattle.scan.specs.Space.{constant}

-- what the code finds: one of the two, or neither
pub fixed-some : {r : std.Option FixedMessage} (k : FixedMessage) → r ≡ Some k → (is_certain r || is_zero r) ≡ true
fixed-some k e = rw e (go k)
  where
    go : (k : FixedMessage) → (is_certain (Some k) || is_zero (Some k)) ≡ true
    go Certain = refl
    go Zero = refl

pub fixed-none : {r : std.Option FixedMessage} → r ≡ None → (is_certain r || is_zero r) ≡ false
fixed-none e = rw e

pub both_true : (a b : Bool) → (a && b) ≡ true → (a ≡ true) × (b ≡ true)
both_true true b e = (refl, e)
both_true false b e = absurd (subst T (sym e) tt)

-- a child is constant exactly if its message is certain or 0
rate_01 : (o : Option Kind) → (is_kind rate_0 o || is_kind rate_1 o) ≡ is_rate01 o
rate_01 none = refl
rate_01 (some rate_0) = refl
rate_01 (some rate_1) = refl
rate_01 (some REP) = refl
rate_01 (some SPC) = refl
rate_01 (some type_I) = refl
rate_01 (some type_III) = refl
rate_01 (some type_II) = refl
rate_01 (some type_IV) = refl

pub fixed_constant : (plan : List ℕ) (m p : ℕ) (mask : List ℕ) (a z : Bool) → FixedAs plan m p mask a z → (a || z) ≡ constant plan m p mask
fixed_constant plan m p mask a z f = ap (λ (x : Bool). x || z) f.as_certain ∙ ap (λ (x : Bool). (is_cut plan p && is_kind rate_0 (kind_of m mask)) || x) f.as_zero ∙ go (is_cut plan p)
  where
    go : (b : Bool) → ((b && is_kind rate_0 (kind_of m mask)) || (b && is_kind rate_1 (kind_of m mask))) ≡ (b && is_rate01 (kind_of m mask))
    go true = rate_01 (kind_of m mask)
    go false = refl

-- the kind in a row of the table
row-kind : (k : Kind) → get_or order (row k) rate_0 ≡ k
row-kind rate_0 = refl
row-kind rate_1 = refl
row-kind REP = refl
row-kind SPC = refl
row-kind type_I = refl
row-kind type_III = refl
row-kind type_II = refl
row-kind type_IV = refl

pub is-kind : (k : Kind) (o : Option Kind) → is_kind k o ≡ true → o ≡ some k
is-kind k none e = absurd (subst T (sym e) tt)
is-kind k (some j) e = ap some (sym (row-kind j) ∙ ap (λ (r : ℕ). get_or order r rate_0) (sym (eqb-true (row k) (row j) e)) ∙ row-kind k)

-- the message of a cut node of a kind that has the same value everywhere
walk_fixed : (k : Kind) (s : Soft) → ((m : ℕ) (L : List Soft) → shortcut k m L ≡ tabulate m (λ i. s))
    → (plan : List ℕ) (t p : ℕ) (mask : List ℕ) (P : Tree) (L : List Soft) → (is_cut plan p && is_kind k (kind_of (2 ^ t) mask)) ≡ true
    → (i : ℕ) → i < 2 ^ t → message (walk plan t p (frozen_to_zero mask) P L) at i ≡ s
walk_fixed k s table plan t p mask P L e i lt =
    let cut-so = both_true (is_cut plan p) (is_kind k (kind_of (2 ^ t) mask)) e in
    ap (λ (T' : Tree). message T' at i) (plain-cut plan t p mask P L cut-so.0 ∙ ap (λ (x : Option Kind). put_column x (2 ^ t) L P) (is-kind k (kind_of (2 ^ t) mask) cut-so.1))
    ∙ ap (λ (l : List Soft). l at i) (message-put (shortcut k (2 ^ t) L) P ∙ table (2 ^ t) L)
    ∙ get_d_tabulate (2 ^ t) (λ i. s) i soft_zero lt

module _ (plan : List ℕ) (t p : ℕ) (mask : List ℕ) (P : Tree) (L : List Soft) (a z : Bool) (f : FixedAs plan (2 ^ t) p mask a z) where
  pub walk-certain : a ≡ true → (i : ℕ) → i < 2 ^ t → message (walk plan t p (frozen_to_zero mask) P L) at i ≡ certain
  walk-certain e = walk_fixed rate_0 certain (λ m l. unfold shortcut in refl) plan t p mask P L (sym f.as_certain ∙ e)

  pub walk-zero : z ≡ true → (i : ℕ) → i < 2 ^ t → message (walk plan t p (frozen_to_zero mask) P L) at i ≡ soft_zero
  walk-zero e = walk_fixed rate_1 soft_zero (λ m l. unfold shortcut in refl) plan t p mask P L (sym f.as_zero ∙ e)
