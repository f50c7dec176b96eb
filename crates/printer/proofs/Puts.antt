-- Text put piece by piece into a buffer that may be too short. Assumes nothing.
use mathlib.Core.Path.{◌≡◌, refl, sym, ap, ap₂, ◌∙◌, subst}
use mathlib.Core.Bool.{Bool, true, false}
use mathlib.Core.List.{List, [], ◌∷◌, ◌++◌}
use Prim.Native.Nat.{ℕ, suc, ◌+◌, ◌≤◌, ◌<◌}
use native.Mathlib.Nat.{add-zero}
use native.Mathlib.Omega.{arith}
use lib.Dec.{leb}
use lib.ListN.{length, set, length-append}
use lib.Seq.{sets, length-sets, set_out}
use borrow.Author.Tests.{leb-true, leb-false}
use Rattle.printer.specs.Put.{Put, stop}

pub sets_append : (a b l : List ℕ) (i : ℕ) → sets l i (a ++ b) ≡ sets (sets l i a) (i + length a) b
sets_append [] b l i = rw (add-zero i)
sets_append (x ∷ a) b l i = sets_append a b (set l i x) (suc i) ∙ (let e : suc i + length a ≡ i + suc (length a) = omega arith in rw e)

-- what has no room is left out
pub sets-out : (v l : List ℕ) (i : ℕ) → length l ≤ i → sets l i v ≡ l
sets-out [] l i h = refl
sets-out (a ∷ v) l i h =
    let e : set l i a ≡ l = set_out l i a h in
    rw e (sets-out v l (suc i) (omega arith))

-- a text that has room, and one that has not
stop-room : (r i n : ℕ) → i + n ≤ r → stop r i n ≡ i + n
stop-room r i n h = omega arith

stop-out : (r i n : ℕ) → r < i + n → r ≤ stop r i n
stop-out r i n h = omega arith

stop-two : (r i m n : ℕ) → stop r (stop r i m) n ≡ stop r i (m + n)
stop-two r i m n = go (leb (i + m) r) refl
  where
    go : (t : Bool) → leb (i + m) r ≡ t → stop r (stop r i m) n ≡ stop r i (m + n)
    go true e =
        let h : stop r i m ≡ i + m = stop-room r i m (leb-true (i + m) r e) in
        rw h (let l : i + m ≤ r = leb-true (i + m) r e in omega arith)
    go false e =
        let l : r < i + m = leb-false (i + m) r e in
        omega arith

-- one text behind another
module _ {a o o₁ : List ℕ} {i j : ℕ} (p : Put a o i o₁ j) where
  pub put-kept : length o₁ ≡ length o
  put-kept = ap length p.bytes ∙ length-sets o i a

  put-bytes : (b : List ℕ) → sets o₁ j b ≡ sets o i (a ++ b)
  put-bytes b = go (leb (i + length a) (length o)) refl
    where
      go : (t : Bool) → leb (i + length a) (length o) ≡ t → sets o₁ j b ≡ sets o i (a ++ b)
      go true e =
          let h : j ≡ i + length a = p.ends ∙ stop-room (length o) i (length a) (leb-true (i + length a) (length o) e) in
          ap₂ (λ (l : List ℕ) (n : ℕ). sets l n b) p.bytes h ∙ sym (sets_append a b o i)
      go false e =
          let l : length o < i + length a = leb-false (i + length a) (length o) e in
          let h : length o ≤ j = omega (arith, p.ends, stop-out (length o) i (length a) l) in
          sets-out b o₁ j (omega (arith, put-kept)) ∙ p.bytes
          ∙ sym (sets_append a b o i ∙ sets-out b (sets o i a) (i + length a) (omega (arith, length-sets o i a)))

  put-stop : (n : ℕ) → stop (length o₁) j n ≡ stop (length o) i (length a + n)
  put-stop n = ap₂ (λ (r k : ℕ). stop r k n) put-kept p.ends ∙ stop-two (length o) i (length a) n

  pub put_then : {b o₂ : List ℕ} {k : ℕ} → Put b o₁ j o₂ k → Put (a ++ b) o i o₂ k
  put_then {b} {o₂} {k} q = record {
    bytes = q.bytes ∙ put-bytes b;
    ends = q.ends ∙ put-stop (length b) ∙ ap (stop (length o) i) (sym (length-append a b));
  }

pub put_as : {a b o o₁ : List ℕ} {i j : ℕ} → a ≡ b → Put a o i o₁ j → Put b o i o₁ j
put_as {a} {b} {o} {o₁} {i} {j} e p = subst (λ (t : List ℕ). Put t o i o₁ j) e p

-- ---- a loop: what is to come, rest, from j on in o, makes the whole from i on in o₀
pub record Going (whole o₀ : List ℕ) (i : ℕ) (rest o : List ℕ) (j : ℕ) : Type 0 where
  pub bytes : sets o j rest ≡ sets o₀ i whole
  pub ends : stop (length o) j (length rest) ≡ stop (length o₀) i (length whole)
  pub kept : length o ≡ length o₀

pub going_start : (whole o₀ : List ℕ) (i : ℕ) → Going whole o₀ i whole o₀ i
going_start whole o₀ i = record { bytes = refl; ends = refl; kept = refl }

module _ {whole o₀ c o : List ℕ} {i j : ℕ} (g : Going whole o₀ i c o j) where
  pub going_on : {a o₁ : List ℕ} {k : ℕ} (b : List ℕ) → a ++ b ≡ c → Put a o j o₁ k → Going whole o₀ i b o₁ k
  going_on {a} {o₁} {k} b e p = record {
    bytes = put-bytes p b ∙ ap (sets o j) e ∙ g.bytes;
    ends = put-stop p (length b) ∙ ap (stop (length o) j) (sym (length-append a b) ∙ ap length e) ∙ g.ends;
    kept = put-kept p ∙ g.kept;
  }

  pub going_end : c ≡ [] → Put whole o₀ i o j
  going_end e = record {
    bytes = ap (sets o j) (sym e) ∙ g.bytes;
    ends = end-here (length o) j ∙ ap (stop (length o) j) (sym (ap length e)) ∙ g.ends;
  }
    where
      end-here : (r j : ℕ) → j ≡ stop r j 0
      end-here r j = omega arith
