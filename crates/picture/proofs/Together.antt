-- What some pixels say together, by what each says.
use Prim.Native.Nat.{ℕ, zero, suc, ◌<◌}
use mathlib.Core.Path.{◌≡◌, refl, sym, ap, ◌∙◌}
use mathlib.Core.Bool.{Bool, true, false, ◌||◌, cond, false≢true}
use mathlib.Core.Logic.{◌↔◌}
use native.Mathlib.Omega.{arith}
use Rattle.picture.specs.declared.uprights.Verdict.{Verdict}
use Rattle.picture.specs.declared.uprights.Verdict.TheVariants.{Yes, No, Unknown}
use Rattle.picture.specs.Upright.{says_no, says_unknown, number_of, any_to, together}
use Rattle.picture.proofs.Indexed.{any_finds}

-- the three are apart
pub no_yes : No ≡ Yes → ⊥
no_yes e = let bad : ◌≡◌ {A = ℕ} 0 1 = ap number_of e in omega arith

pub unknown_yes : Unknown ≡ Yes → ⊥
unknown_yes e = let bad : ◌≡◌ {A = ℕ} 2 1 = ap number_of e in omega arith

pub unknown_no : Unknown ≡ No → ⊥
unknown_no e = let bad : ◌≡◌ {A = ℕ} 2 0 = ap number_of e in omega arith

-- where a test finds something, some place passes it
pub any_found : (n : ℕ) (test : ℕ → Bool) → any_to n test ≡ true → (k : ℕ) × (k < n) × (test k ≡ true)
unfolding any_to
any_found zero test e = absurd (false≢true e)
any_found (suc n) test e = by (λ found. any_found n test found) (any_to n test) refl (test n) refl e
  where
    by : (any_to n test ≡ true → (k : ℕ) × (k < n) × (test k ≡ true)) → (b : Bool) → any_to n test ≡ b → (c : Bool) → test n ≡ c → (b || c) ≡ true
        → (k : ℕ) × (k < suc n) × (test k ≡ true)
    by rest true found c is e = let f = rest found in (f.0, omega (arith, f.1), f.2)
    by rest false none true is e = (n, omega arith, is)
    by rest false none false is e = absurd (false≢true e)

-- where it finds nothing, none does
pub any_none : (n : ℕ) (test : ℕ → Bool) → any_to n test ≡ false → (k : ℕ) → k < n → test k ≡ false
any_none n test e k h = by (test k) refl
  where
    by : (b : Bool) → test k ≡ b → b ≡ false
    by true is = absurd (false≢true (sym e ∙ any_finds n test k h is))
    by false is = refl

none_any : (n : ℕ) (test : ℕ → Bool) → ((k : ℕ) → k < n → test k ≡ false) → any_to n test ≡ false
none_any n test none = by (any_to n test) refl
  where
    by : (b : Bool) → any_to n test ≡ b → b ≡ false
    by true found = let f = any_found n test found in absurd (false≢true (sym (none f.0 f.1) ∙ f.2))
    by false is = refl

is_yes : (v : Verdict) → says_no v ≡ false → says_unknown v ≡ false → v ≡ Yes
is_yes Yes a b = refl
is_yes No a b = absurd (false≢true (sym a))
is_yes Unknown a b = absurd (false≢true (sym b))

is_no : (v : Verdict) → says_no v ≡ true → v ≡ No
is_no Yes a = absurd (false≢true a)
is_no No a = refl
is_no Unknown a = absurd (false≢true a)

is_unknown : (v : Verdict) → says_unknown v ≡ true → v ≡ Unknown
is_unknown Yes a = absurd (false≢true a)
is_unknown No a = absurd (false≢true a)
is_unknown Unknown a = refl

module _ (n : ℕ) (says : ℕ → Verdict) where
  no : Bool
  no = any_to n (λ k. says_no (says k))

  unknown : Bool
  unknown = any_to n (λ k. says_unknown (says k))

  -- yes if all say yes
  pub all_yes : (together n says ≡ Yes) ↔ ((k : ℕ) → k < n → says k ≡ Yes)
  unfolding no unknown
  all_yes = (λ e. there no unknown refl refl e, back)
    where
      there : (a b : Bool) → no ≡ a → unknown ≡ b → cond a No (cond b Unknown Yes) ≡ Yes → (k : ℕ) → k < n → says k ≡ Yes
      there true b x y e k h = absurd (no_yes e)
      there false true x y e k h = absurd (unknown_yes e)
      there false false x y e k h = is_yes (says k) (any_none n _ x k h) (any_none n _ y k h)

      back : ((k : ℕ) → k < n → says k ≡ Yes) → together n says ≡ Yes
      back all = rw (none_any n (λ k. says_no (says k)) (λ k h. ap says_no (all k h)), none_any n (λ k. says_unknown (says k)) (λ k h. ap says_unknown (all k h)))

  -- no if one says no
  pub some_no : (together n says ≡ No) ↔ ((k : ℕ) × (k < n) × (says k ≡ No))
  unfolding no unknown
  some_no = (λ e. there no unknown refl refl e, λ f. rw (any_finds n (λ k. says_no (says k)) f.0 f.1 (ap says_no f.2)))
    where
      there : (a b : Bool) → no ≡ a → unknown ≡ b → cond a No (cond b Unknown Yes) ≡ No → (k : ℕ) × (k < n) × (says k ≡ No)
      there true b x y e = let f = any_found n _ x in (f.0, f.1, is_no (says f.0) f.2)
      there false true x y e = absurd (unknown_no e)
      there false false x y e = absurd (no_yes (sym e))

  -- unknown only if one says so
  pub some_unknown : together n says ≡ Unknown → (k : ℕ) × (k < n) × (says k ≡ Unknown)
  unfolding no unknown
  some_unknown e = by no unknown refl refl e
    where
      by : (a b : Bool) → no ≡ a → unknown ≡ b → cond a No (cond b Unknown Yes) ≡ Unknown → (k : ℕ) × (k < n) × (says k ≡ Unknown)
      by true b x y e = absurd (unknown_no (sym e))
      by false true x y e = let f = any_found n _ y in (f.0, f.1, is_unknown (says f.0) f.2)
      by false false x y e = absurd (unknown_yes (sym e))
