-- Powers with integer exponents in any group, given by laws for the elements of a type: they are elements, exponents add when
-- powers are multiplied, and they multiply when a power is raised again. At the end, that the powers of specs/ are such powers.
use Prim.Native.Nat.{ℕ, zero, suc}
use mathlib.Core.Path.{◌≡◌, refl, sym, ◌∙◌, ap, subst}
use lib.IntN.{ℤ, pos, negsuc, suc_ℤ, pred_ℤ, neg_ℤ, ℤ_ind, ◌+ℤ◌, ◌*ℤ◌, +ℤ_one, -ℤ_one, +ℤ-suc_ℤ, +ℤ-pred_ℤ, +ℤ_idr, +ℤ_invr, zero-*ℤ, suc_ℤ-*ℤ}
use lib.IntN.{pred_ℤ-*ℤ, *ℤ_comm}
use Rattle.higman.specs.Words.{Shape}
use Rattle.higman.specs.Tables.{Table}
use Rattle.higman.specs.Normal.{compose, inverse, identity, repeated, power}

-- the elements are those of A for which E holds
pub record GroupLaws {A : Type 0} (E : A → Type 0) (op : A → A → A) (e : A) (inv : A → A) : Type 0 where
  pub unit_in : E e
  pub op_in : (a b : A) → E a → E b → E (op a b)
  pub inv_in : (a : A) → E a → E (inv a)
  pub assoc : (a b c : A) → E a → E b → E c → op (op a b) c ≡ op a (op b c)
  pub unit_left : (a : A) → E a → op e a ≡ a
  pub unit_right : (a : A) → E a → op a e ≡ a
  pub inv_right : (a : A) → E a → op a (inv a) ≡ e
  pub inv_left : (a : A) → E a → op (inv a) a ≡ e

-- k times in a row
abbrev pub rep : {A : Type 0} → (A → A → A) → A → A → ℕ → A
rep op e a zero = e
rep op e a (suc k) = op (rep op e a k) a

-- below zero, so many times the inverse
abbrev pub pow : {A : Type 0} → (A → A → A) → A → (A → A) → A → ℤ → A
pow op e inv a (pos k) = rep op e a k
pow op e inv a (negsuc k) = rep op e (inv a) (suc k)

-- induction over the integers: from zero, up and down by one
by_suc_and_pred : (P : ℤ → Type 0) → P (pos zero) → ((k : ℤ) → P k → P (suc_ℤ k)) → ((k : ℤ) → P k → P (pred_ℤ k)) → (k : ℤ) → P k
by_suc_and_pred P base up down =
    ℤ_ind P base (λ n r. subst P (sym (+ℤ_one (pos n))) (up (pos n) r)) (λ n r. subst P (sym (-ℤ_one (neg_ℤ (pos n)))) (down (neg_ℤ (pos n)) r))

module _ {A : Type 0} {E : A → Type 0} {op : A → A → A} {e : A} {inv : A → A} (g : GroupLaws E op e inv) where
  rep_in : (a : A) → E a → (k : ℕ) → E (rep op e a k)
  rep_in a h zero = g.unit_in
  rep_in a h (suc k) = g.op_in _ _ (rep_in a h k) h

  pub pow_in : (a : A) → E a → (k : ℤ) → E (pow op e inv a k)
  pow_in a h (pos k) = rep_in a h k
  pow_in a h (negsuc k) = rep_in (inv a) (g.inv_in a h) (suc k)

  cancel_inv : (x a : A) → E x → E a → op (op x (inv a)) a ≡ x
  cancel_inv x a p q = g.assoc x (inv a) a p (g.inv_in a q) q ∙ ap (op x) (g.inv_left a q) ∙ g.unit_right x p

  cancel_op : (x a : A) → E x → E a → op (op x a) (inv a) ≡ x
  cancel_op x a p q = g.assoc x a (inv a) p q (g.inv_in a q) ∙ ap (op x) (g.inv_right a q) ∙ g.unit_right x p

  pub pow_suc : (a : A) → E a → (k : ℤ) → pow op e inv a (suc_ℤ k) ≡ op (pow op e inv a k) a
  pow_suc a h (pos n) = refl
  pow_suc a h (negsuc zero) = sym (cancel_inv e a g.unit_in h)
  pow_suc a h (negsuc (suc n)) = sym (cancel_inv _ a (pow_in a h (negsuc n)) h)

  pub pow_pred : (a : A) → E a → (k : ℤ) → pow op e inv a (pred_ℤ k) ≡ op (pow op e inv a k) (inv a)
  pow_pred a h (pos zero) = refl
  pow_pred a h (pos (suc n)) = sym (cancel_op _ a (pow_in a h (pos n)) h)
  pow_pred a h (negsuc n) = refl

  pub pow_sum : (a : A) → E a → (j k : ℤ) → op (pow op e inv a j) (pow op e inv a k) ≡ pow op e inv a (j +ℤ k)
  pow_sum a h j =
      by_suc_and_pred
      (λ k. op (pow op e inv a j) (pow op e inv a k) ≡ pow op e inv a (j +ℤ k))
      (g.unit_right _ (pow_in a h j) ∙ ap (pow op e inv a) (sym (+ℤ_idr j)))
      (λ k r. rw (pow_suc a h k, +ℤ-suc_ℤ j k, pow_suc a h (j +ℤ k), ← r) (regroup k a h))
      (λ k r. rw (pow_pred a h k, +ℤ-pred_ℤ j k, pow_pred a h (j +ℤ k), ← r) (regroup k (inv a) (g.inv_in a h)))
    where
      regroup : (k : ℤ) (b : A) → E b → op (pow op e inv a j) (op (pow op e inv a k) b) ≡ op (op (pow op e inv a j) (pow op e inv a k)) b
      regroup k b q = sym (g.assoc _ _ b (pow_in a h j) (pow_in a h k) q)

  -- an element that undoes another is its inverse
  pub inv_unique : (a b : A) → E a → E b → op a b ≡ e → inv a ≡ b
  inv_unique a b p q r =
      let i = g.inv_in a p in
      sym (g.unit_right (inv a) i) ∙ ap (op (inv a)) (sym r) ∙ sym (g.assoc (inv a) a b i p q) ∙ ap (λ x. op x b) (g.inv_left a p) ∙ g.unit_left b q

  pub pow_neg : (a : A) → E a → (j : ℤ) → inv (pow op e inv a j) ≡ pow op e inv a (neg_ℤ j)
  pow_neg a h j =
      inv_unique _ _ (pow_in a h j) (pow_in a h (neg_ℤ j)) (pow_sum a h j (neg_ℤ j) ∙ ap (pow op e inv a) (+ℤ_invr j))

  pub pow_product : (a : A) → E a → (j k : ℤ) → pow op e inv (pow op e inv a j) k ≡ pow op e inv a (j *ℤ k)
  pow_product a h j k = rw (*ℤ_comm j k) (turned k)
    where
      turned : (k : ℤ) → pow op e inv (pow op e inv a j) k ≡ pow op e inv a (k *ℤ j)
      turned =
          by_suc_and_pred
          (λ k. pow op e inv (pow op e inv a j) k ≡ pow op e inv a (k *ℤ j))
          (ap (pow op e inv a) (sym (zero-*ℤ j)))
          (λ k r. rw (pow_suc _ (pow_in a h j) k, r, pow_sum a h (k *ℤ j) j, suc_ℤ-*ℤ k j))
          (λ k r. rw (pow_pred _ (pow_in a h j) k, r, pow_neg a h j, pow_sum a h (k *ℤ j) (neg_ℤ j), pred_ℤ-*ℤ k j))

pub repeated_is_rep : (s : Shape) (a : Table) (k : ℕ) → repeated s a k ≡ rep (compose s) (identity s) a k
unfolding repeated
repeated_is_rep s a zero = refl
repeated_is_rep s a (suc k) = ap (λ t. compose s t a) (repeated_is_rep s a k)

pub power_is_pow : (s : Shape) (a : Table) (k : ℤ) → power s a k ≡ pow (compose s) (identity s) (inverse s) a k
unfolding power
power_is_pow s a (pos k) = repeated_is_rep s a k
power_is_pow s a (negsuc k) = repeated_is_rep s (inverse s a) (suc k)
