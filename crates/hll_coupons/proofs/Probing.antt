-- SPDX-License-Identifier: Apache-2.0
-- A path with an odd stride visits each bucket of its table once.
use Rattle.std.proofs.Common.{◌≡◌, ℕ, ◌+◌, ◌-◌, ◌*◌, ◌/◌, ◌%◌, ◌^◌, ◌<◌, ◌≤◌, ◌⊎◌, zero, suc, get_or, sym, ap, ◌∙◌, arith, inl, inr}
use Rattle.std.proofs.lemmas.Bool.{cases_lt}
use Rattle.std.proofs.lemmas.Nat.{pow_pos}
use Rattle.std.proofs.lemmas.List.FromFn.{get_or-map-range_with_len}
use Rattle.std.proofs.Math.Nat.{mod-lt, mod-eq_of_lt, mod-one, mod-eq-sub-mod, add-mul-div_left, add-mul-mod_self_left, pow-suc}
use Rattle.std.proofs.Math.Pow.{mod-pow-add, mod-mod-pow}
use Rattle.hll_coupons.specs.Probe.{path}
use Rattle.hll_coupons.specs.Laws.{MeetsEachBucketOnce}

-- a modulo 2^(n + 1), by its upper bit
upper : (a n : ℕ) → a % 2 ^ suc n ≡ (a / 2 ^ n % 2) * 2 ^ n + a % 2 ^ n
upper a n = ap (λ m. a % 2 ^ m) (let s : suc n ≡ 1 + n = omega arith in s) ∙ mod-pow-add a 1 n

-- adding an odd multiple of 2^n flips the upper bit
turned : (a d n : ℕ) → d % 2 ≡ 1 →
    ((a % 2 ^ suc n ≡ a % 2 ^ n) × ((a + 2 ^ n * d) % 2 ^ suc n ≡ 2 ^ n + a % 2 ^ n))
    ⊎ ((a % 2 ^ suc n ≡ 2 ^ n + a % 2 ^ n) × ((a + 2 ^ n * d) % 2 ^ suc n ≡ a % 2 ^ n))
turned a d n odd =
    let q : ℕ = a / 2 ^ n in
    let r : ℕ = a % 2 ^ n in
    let one : a % 2 ^ suc n ≡ (q % 2) * 2 ^ n + r = upper a n in
    let two : (a + 2 ^ n * d) % 2 ^ suc n ≡ ((q + d) % 2) * 2 ^ n + r = upper (a + 2 ^ n * d) n
    ∙ (λ i. (add-mul-div_left a d (pow_pos n) i % 2) * 2 ^ n + add-mul-mod_self_left a (2 ^ n) d i) in
    elim (cases_lt (q % 2) 1) [
      | inl low ↦
          let h : q % 2 ≡ 0 = omega arith in
          let k : (q + d) % 2 ≡ 1 = omega arith in
          inl (one ∙ ap (λ b. b * 2 ^ n + r) h ∙ omega arith, two ∙ ap (λ b. b * 2 ^ n + r) k ∙ omega arith)
      | inr high ↦
          let h : q % 2 ≡ 1 = omega arith in
          let k : (q + d) % 2 ≡ 0 = omega arith in
          inr (one ∙ ap (λ b. b * 2 ^ n + r) h ∙ omega arith, two ∙ ap (λ b. b * 2 ^ n + r) k ∙ omega arith)
    ]

twice : (n : ℕ) → 2 ^ suc n ≡ 2 * 2 ^ n
twice n = omega (arith, pow-suc 2 n)

-- a number below 2^(n + 1) is its lower part, or its lower part plus 2^n
parts : (n bucket : ℕ) → bucket < 2 ^ suc n → (bucket ≡ bucket % 2 ^ n) ⊎ (bucket ≡ 2 ^ n + bucket % 2 ^ n)
parts n bucket h = elim (cases_lt bucket (2 ^ n)) [
  | inl below ↦ inl (sym (mod-eq_of_lt below))
  | inr above ↦
      let rest : bucket - 2 ^ n < 2 ^ n = omega (arith, twice n) in
      inr (omega (arith, mod-eq-sub-mod above, mod-eq_of_lt rest))
]

further : (start i d n : ℕ) → start + (i + 2 ^ n) * d ≡ start + i * d + 2 ^ n * d
further start i d n = omega arith

pub meets : (start d n bucket : ℕ) → d % 2 ≡ 1 → bucket < 2 ^ n → (i : ℕ) × (i < 2 ^ n) × ((start + i * d) % 2 ^ n ≡ bucket)
meets start d zero bucket odd h = (0, omega arith, mod-one (start + 0 * d) ∙ omega arith)
meets start d (suc n) bucket odd h =
    let before = meets start d n (bucket % 2 ^ n) odd (mod-lt bucket (pow_pos n)) in
    let i : ℕ = before.0 in
    let a : ℕ = start + i * d in
    let here : i < 2 ^ suc n = omega (arith, before.1, twice n) in
    let there : i + 2 ^ n < 2 ^ suc n = omega (arith, before.1, twice n) in
    elim (turned a d n odd) [
      | inl t ↦ elim (parts n bucket h) [
        | inl p ↦ (i, here, t.0 ∙ before.2 ∙ sym p)
        | inr p ↦ (i + 2 ^ n, there, ap (λ m. m % 2 ^ suc n) (further start i d n) ∙ t.1 ∙ ap (λ m. 2 ^ n + m) before.2 ∙ sym p)
      ]
      | inr t ↦ elim (parts n bucket h) [
        | inl p ↦ (i + 2 ^ n, there, ap (λ m. m % 2 ^ suc n) (further start i d n) ∙ t.1 ∙ before.2 ∙ sym p)
        | inr p ↦ (i, here, t.0 ∙ ap (λ m. 2 ^ n + m) before.2 ∙ sym p)
      ]
    ]

lower : (a b n : ℕ) → a % 2 ^ suc n ≡ b % 2 ^ suc n → a % 2 ^ n ≡ b % 2 ^ n
lower a b n e = sym (again a) ∙ ap (λ m. m % 2 ^ n) e ∙ again b
  where
    again : (c : ℕ) → c % 2 ^ suc n % 2 ^ n ≡ c % 2 ^ n
    again c = ap (λ m. c % 2 ^ m % 2 ^ n) (let s : suc n ≡ 1 + n = omega arith in s) ∙ mod-mod-pow c 1 n

-- the two halves of a path differ
apart : (a d n : ℕ) → d % 2 ≡ 1 → a % 2 ^ suc n ≡ (a + 2 ^ n * d) % 2 ^ suc n → ⊥
apart a d n odd e = elim (turned a d n odd) [ inl t ↦ omega (arith, pow_pos n, t.0, t.1) | inr t ↦ omega (arith, pow_pos n, t.0, t.1) ]

pub only : (start d n i j : ℕ) → d % 2 ≡ 1 → i < 2 ^ n → j < 2 ^ n → (start + i * d) % 2 ^ n ≡ (start + j * d) % 2 ^ n → i ≡ j
only start d zero i j odd hi hj e = omega arith
only start d (suc n) i j odd hi hj e =
    let M : ℕ = 2 ^ n in
    let at : ℕ → ℕ = λ m. start + m * d in
    let moved : (m : ℕ) → M ≤ m → at m ≡ at (m - M) + M * d = λ m h. ap at (let s : m ≡ m - M + M = omega arith in s) ∙ further start (m - M) d n in
    let back : (m : ℕ) → M ≤ m → at m % 2 ^ n ≡ at (m - M) % 2 ^ n = λ m h. ap (λ x. x % 2 ^ n) (moved m h) ∙ add-mul-mod_self_left (at (m - M)) (2 ^ n) d in
    let below : at i % 2 ^ n ≡ at j % 2 ^ n = lower (at i) (at j) n e in
    elim (cases_lt i M) [
      | inl li ↦ elim (cases_lt j M) [
        | inl lj ↦ only start d n i j odd li lj below
        | inr gj ↦
            let s : i ≡ j - M = only start d n i (j - M) odd li (omega (arith, twice n)) (below ∙ back j gj) in
            absurd (apart (at i) d n odd (e ∙ ap (λ x. x % 2 ^ suc n) (moved j gj ∙ ap (λ m. at m + M * d) (sym s))))
      ]
      | inr gi ↦ elim (cases_lt j M) [
        | inl lj ↦
            let s : i - M ≡ j = only start d n (i - M) j odd (omega (arith, twice n)) lj (sym (back i gi) ∙ below) in
            absurd (apart (at j) d n odd (sym e ∙ ap (λ x. x % 2 ^ suc n) (moved i gi ∙ ap (λ m. at m + M * d) s)))
        | inr gj ↦
            let s : i - M ≡ j - M = only start d n (i - M) (j - M) odd (omega (arith, twice n)) (omega (arith, twice n)) (sym (back i gi) ∙ below ∙ back j gj) in
            omega arith
      ]
    ]

-- the i-th bucket of a path
pub path_at : (start d n i : ℕ) → i < 2 ^ n → get_or (path start d n) i 0 ≡ (start + i * d) % 2 ^ n
path_at start d n i h = get_or-map-range_with_len (λ i. (start + i * d) % 2 ^ n) 0 (2 ^ n) i i 0 h (omega arith)

pub meets_each_bucket_once : MeetsEachBucketOnce
meets_each_bucket_once start d n bucket odd h =
    let found = meets start d n bucket odd h in (
      found.0,
      found.1,
      path_at start d n found.0 found.1 ∙ found.2,
      λ j hj e. only start d n j found.0 odd hj found.1 (sym (path_at start d n j hj) ∙ e ∙ sym found.2),
    )
