-- SPDX-License-Identifier: Apache-2.0
-- The coupons in buckets: in empty buckets, after a coupon is put, and in a prefix of the buckets.
use Rattle.std.proofs.Common.{◌≡◌, ℕ, zero, suc, ◌-◌, ◌<◌, ◌≤◌, Bool, true, false, cond, List, [], ◌∷◌, ◌++◌, nat_lt, length, replicate, get_or, refl, sym, ◌∙◌, ap, arith}
use Rattle.std.proofs.Math.ListN.{set}
use Rattle.std.proofs.lemmas.Grind.{common_steps}
use Rattle.std.proofs.lemmas.List.{append-nil}
use Rattle.std.proofs.lemmas.List.Elements.{filter-append}
use Rattle.hll_coupons.specs.Table.{coupons_in}

-- empty buckets have no coupons
pub coupons_in-replicate : (n : ℕ) → coupons_in (replicate n 0) ≡ []
coupons_in-replicate zero = refl
coupons_in-replicate (suc n) = coupons_in-replicate n

-- there are no more coupons than buckets
pub length-coupons_in : (buckets : List ℕ) → length (coupons_in buckets) ≤ length buckets
length-coupons_in [] = omega arith
length-coupons_in (p ∷ ps) = kept (nat_lt 0 p) (length-coupons_in ps)
  where
    kept : (b : Bool) → length (coupons_in ps) ≤ length ps → length (cond b (p ∷ coupons_in ps) (coupons_in ps)) ≤ length (p ∷ ps)
    kept true h = omega arith
    kept false h = omega arith

-- the coupon of the first bucket, if it is filled, and then others
cons_if : Bool → ℕ → List ℕ → List ℕ
cons_if b p xs = cond b (p ∷ xs) xs

cons_if-append : (b : Bool) (p : ℕ) (xs ys : List ℕ) → cons_if b p xs ++ ys ≡ cons_if b p (xs ++ ys)
unfolding cons_if
cons_if-append true p xs ys = refl
cons_if-append false p xs ys = refl

coupons_in-cons : (p : ℕ) (ps : List ℕ) → coupons_in (p ∷ ps) ≡ cons_if (nat_lt 0 p) p (coupons_in ps)
unfolding cons_if
coupons_in-cons p ps = refl

pub coupons_in-empty : (p : ℕ) (ps : List ℕ) → p ≡ 0 → coupons_in (p ∷ ps) ≡ coupons_in ps
coupons_in-empty p ps e = ap (λ q. coupons_in (q ∷ ps)) e

pub coupons_in-full : (p : ℕ) (ps : List ℕ) → 0 < p → coupons_in (p ∷ ps) ≡ p ∷ coupons_in ps
coupons_in-full p ps h = grind (arith, common_steps)

-- the coupons of a list of coupons are the list
pub coupons_in-coupons_in : (buckets : List ℕ) → coupons_in (coupons_in buckets) ≡ coupons_in buckets
unfolding cons_if
coupons_in-coupons_in [] = refl
coupons_in-coupons_in (p ∷ ps) = again (nat_lt 0 p) refl (coupons_in-coupons_in ps)
  where
    again : (b : Bool) → nat_lt 0 p ≡ b → coupons_in (coupons_in ps) ≡ coupons_in ps → coupons_in (cons_if b p (coupons_in ps)) ≡ cons_if b p (coupons_in ps)
    again true e rest = ap (λ b. cons_if b p (coupons_in (coupons_in ps))) e ∙ ap (λ xs. p ∷ xs) rest
    again false e rest = rest

-- the bucket at i is empty; a coupon put there comes between the coupons before and those after
pub record Between (buckets : List ℕ) (i c : ℕ) : Type 0 where
  pub before : List ℕ
  pub after : List ℕ
  pub old : coupons_in buckets ≡ before ++ after
  pub new : coupons_in (set buckets i c) ≡ before ++ c ∷ after

pub between : (buckets : List ℕ) (i c : ℕ) → i < length buckets → get_or buckets i 0 ≡ 0 → 0 < c → Between buckets i c
between [] i c inside empty full = absurd (omega arith)
between (p ∷ ps) zero c inside empty full = record { before = []; after = coupons_in ps; old = coupons_in-empty p ps empty; new = coupons_in-full c ps full }
between (p ∷ ps) (suc i) c inside empty full =
    let b = between ps i c (omega arith) empty full in
    record {
      before = cons_if (nat_lt 0 p) p b.before;
      after = b.after;
      old = coupons_in-cons p ps ∙ ap (cons_if (nat_lt 0 p) p) b.old ∙ sym (cons_if-append (nat_lt 0 p) p b.before b.after);
      new = coupons_in-cons p (set ps i c) ∙ ap (cons_if (nat_lt 0 p) p) b.new ∙ sym (cons_if-append (nat_lt 0 p) p b.before (c ∷ b.after));
    }

-- filling the first empty bucket after a prefix
pub set-front : (xs : List ℕ) (n c : ℕ) → 0 < n → set (xs ++ replicate n 0) (length xs) c ≡ (xs ++ c ∷ []) ++ replicate (n - 1) 0
set-front [] zero c h = absurd (omega arith)
set-front [] (suc n) c h = ap (λ m. c ∷ replicate m 0) (omega arith)
set-front (x ∷ xs) n c h = ap (λ ys. x ∷ ys) (set-front xs n c h)

-- empty buckets after a prefix add no coupons
pub coupons_in-front : (xs : List ℕ) (n : ℕ) → coupons_in (xs ++ replicate n 0) ≡ coupons_in xs
coupons_in-front xs n = filter-append (λ c. nat_lt 0 c) xs (replicate n 0) ∙ ap (λ ys. coupons_in xs ++ ys) (coupons_in-replicate n) ∙ append-nil (coupons_in xs)
