-- SPDX-License-Identifier: Apache-2.0
-- Lemmas on groups of four registers in three bytes.
use Rattle.std.proofs.Common.{◌≡◌, ℕ, ◌+◌, ◌-◌, ◌*◌, ◌/◌, ◌%◌, ◌^◌, ◌<◌, ◌≤◌, zero, suc, List, [], ◌∷◌, ◌++◌, length, get_or, take, drop, replicate, All, true, inl, inr, refl, sym, ap, subst, ◌∙◌, arith}
use Rattle.std.specs.Prelude.{◌==◌, ◌&&◌, nat_eq}
use Rattle.std.specs.List.{flat_map, list_all}
use Rattle.std.specs.Cmp.{both_ways}
use Rattle.std.specs.Cmp.Lexicographic.{pointwise, bytes_decides}
use Rattle.std.specs.Simd.{first_chunks}
use Rattle.std.proofs.Math.ListN.{set}
use Rattle.std.proofs.Math.Nat.{pow-suc}
use Rattle.std.proofs.Math.Pow.{pow_mono}
use Rattle.std.proofs.lemmas.Bool.{cases_eq, eqb-true, false_from_ne_true}
use Rattle.std.proofs.lemmas.List.{append_assoc, length-drop, length-take-le, take_all, drop_all}
use Rattle.std.proofs.lemmas.List.Elements.{All-cons, All-tail, All-append, All-take, All-drop}
use Rattle.std.proofs.lemmas.List.Folds.{list_all-append}
use Rattle.std.proofs.lemmas.List.Sums.{sum_by-le, AllPass-from_list_all}
use Rattle.std.proofs.lemmas.Slice.Eq.{slice_eq-Decides}
use Rattle.hll_kernels.specs.Groups.{IsGroup, AreGroups, group_number, group_fields, registers_in}
use Rattle.hll_kernels.specs.Packed.{group_bytes, field_bytes, fields, units}
use Rattle.hll_kernels.specs.Packed.{AreRegisters}

-- ---- one group

-- a list of four by its elements
pub four : (R : List ℕ) → length R ≡ 4 → R ≡ get_or R 0 0 ∷ get_or R 1 0 ∷ get_or R 2 0 ∷ get_or R 3 0 ∷ []
four [] e = absurd (omega arith)
four (a ∷ []) e = absurd (omega arith)
four (a ∷ b ∷ []) e = absurd (omega arith)
four (a ∷ b ∷ c ∷ []) e = absurd (omega arith)
four (a ∷ b ∷ c ∷ d ∷ []) e = refl
four (a ∷ b ∷ c ∷ d ∷ x ∷ R) e = absurd (omega arith)

-- a list of three by its elements
pub three : (g : List ℕ) → length g ≡ 3 → g ≡ get_or g 0 0 ∷ get_or g 1 0 ∷ get_or g 2 0 ∷ []
three [] e = absurd (omega arith)
three (a ∷ []) e = absurd (omega arith)
three (a ∷ b ∷ []) e = absurd (omega arith)
three (a ∷ b ∷ c ∷ []) e = refl
three (a ∷ b ∷ c ∷ x ∷ g) e = absurd (omega arith)

-- the fields of the bytes of four registers
pub group_fields-group_bytes : (a b c d : ℕ) → a ≤ 63 → b ≤ 63 → c ≤ 63 → d ≤ 63 → group_fields (group_bytes a b c d) ≡ a ∷ b ∷ c ∷ d ∷ []
group_fields-group_bytes a b c d ha hb hc hd =
    let g : ℕ = a + 64 * b + 4096 * c + 262144 * d in
    let n : ℕ = g % 256 + 256 * (g / 256 % 256) + 65536 * (g / 65536) in
    let back : n ≡ g = omega arith in
    let first : g % 64 ≡ a = omega arith in
    let second : g / 64 % 64 ≡ b = omega arith in
    let third : g / 4096 % 64 ≡ c = omega arith in
    let fourth : g / 262144 ≡ d = omega arith in
    λ i. (ap (λ v. v % 64) back ∙ first) i ∷ (ap (λ v. v / 64 % 64) back ∙ second) i ∷ (ap (λ v. v / 4096 % 64) back ∙ third) i ∷ (ap (λ v. v / 262144) back ∙ fourth) i ∷ []

-- the bytes of the fields of a group
pub group_bytes-group_fields : (g : List ℕ) → IsGroup g →
    group_bytes (group_number g % 64) (group_number g / 64 % 64) (group_number g / 4096 % 64) (group_number g / 262144) ≡ g
group_bytes-group_fields g is =
    let a : ℕ = get_or g 0 0 in
    let b : ℕ = get_or g 1 0 in
    let c : ℕ = get_or g 2 0 in
    let ha : a < 256 = is.bytes 0 0 (omega (arith, is.three)) in
    let hb : b < 256 = is.bytes 1 0 (omega (arith, is.three)) in
    let hc : c < 256 = is.bytes 2 0 (omega (arith, is.three)) in
    let n : ℕ = a + 256 * b + 65536 * c in
    let m : ℕ = n % 64 + 64 * (n / 64 % 64) + 4096 * (n / 4096 % 64) + 262144 * (n / 262144) in
    let back : m ≡ n = omega arith in
    let one : n % 256 ≡ a = omega arith in
    let two : n / 256 % 256 ≡ b = omega arith in
    let last : n / 65536 ≡ c = omega arith in
    (λ i. (ap (λ v. v % 256) back ∙ one) i ∷ (ap (λ v. v / 256 % 256) back ∙ two) i ∷ (ap (λ v. v / 65536) back ∙ last) i ∷ []) ∙ sym (three g is.three)

-- a register of a group is at most 63
pub small-group_fields : (g : List ℕ) → IsGroup g → All (λ v. v ≤ 63) (group_fields g)
small-group_fields g is zero d h = omega arith
small-group_fields g is (suc zero) d h = omega arith
small-group_fields g is (suc (suc zero)) d h = omega arith
small-group_fields g is (suc (suc (suc zero))) d h =
    let ha : get_or g 0 0 < 256 = is.bytes 0 0 (omega (arith, is.three)) in
    let hb : get_or g 1 0 < 256 = is.bytes 1 0 (omega (arith, is.three)) in
    let hc : get_or g 2 0 < 256 = is.bytes 2 0 (omega (arith, is.three)) in
    omega arith
small-group_fields g is (suc (suc (suc (suc k)))) d h = absurd (omega arith)

-- groups with the same fields are the same
group_same : (g h : List ℕ) → IsGroup g → IsGroup h → group_fields g ≡ group_fields h → g ≡ h
group_same g h a b e =
    let at : (j : ℕ) → get_or (group_fields g) j 0 ≡ get_or (group_fields h) j 0 = λ j. ap (λ R. get_or R j 0) e in
    sym (group_bytes-group_fields g a) ∙ (λ i. group_bytes (at 0 i) (at 1 i) (at 2 i) (at 3 i)) ∙ group_bytes-group_fields h b

-- ---- many groups

pub length-registers_in : (G : List (List ℕ)) → length (registers_in G) ≡ 4 * length G
length-registers_in [] = refl
length-registers_in (g ∷ G) = omega (arith, length-registers_in G)

pub small-registers_in : (G : List (List ℕ)) → All IsGroup G → All (λ v. v ≤ 63) (registers_in G)
small-registers_in [] h = λ k d l. absurd (omega arith)
small-registers_in (g ∷ G) h = All-append (λ v. v ≤ 63) (group_fields g) (registers_in G) (small-group_fields g (h 0 [] (omega arith))) (small-registers_in G (All-tail IsGroup g G h))

-- 2^k registers are 2^(k - 2) groups
pub groups-pow : (k : ℕ) → 2 ≤ k → 4 * 2 ^ (k - 2) ≡ 2 ^ k
groups-pow k h = sym (ap (λ n. 2 ^ n) (let e : k ≡ suc (suc (k - 2)) = omega arith in e) ∙ omega (arith, pow-suc 2 (suc (k - 2)), pow-suc 2 (k - 2)))

-- so the registers in groups are registers
pub AreRegisters-registers_in : (k : ℕ) (G : List (List ℕ)) → 2 ≤ k → AreGroups k G → AreRegisters k (registers_in G)
AreRegisters-registers_in k G h are = record {
  size = length-registers_in G ∙ ap (λ n. 4 * n) are.size ∙ groups-pow k h;
  small = small-registers_in G are.bytes;
}

-- the number of groups is a quarter of the number of registers
pub size-AreGroups : (k : ℕ) (G : List (List ℕ)) → 2 ≤ k → AreGroups k G → 4 * length G ≡ 2 ^ k
size-AreGroups k G h are = ap (λ n. 4 * n) are.size ∙ groups-pow k h

-- there are at most 2^19 groups
pub few-AreGroups : (k : ℕ) (G : List (List ℕ)) → k ≤ 21 → AreGroups k G → length G ≤ 2 ^ 19
few-AreGroups k G h are = omega (arith, are.size, pow_mono (let less : k - 2 ≤ 19 = omega arith in less))

-- the register of a slot is in group s / 4
pub get_or-registers_in : (G : List (List ℕ)) (s : ℕ) (d : List ℕ) → s < 4 * length G → get_or (registers_in G) s 0 ≡ get_or (group_fields (get_or G (s / 4) d)) (s % 4) 0
get_or-registers_in [] s d h = absurd (omega arith)
get_or-registers_in (g ∷ G) zero d h = refl
get_or-registers_in (g ∷ G) (suc zero) d h = refl
get_or-registers_in (g ∷ G) (suc (suc zero)) d h = refl
get_or-registers_in (g ∷ G) (suc (suc (suc zero))) d h = refl
get_or-registers_in (g ∷ G) (suc (suc (suc (suc s)))) d h =
    let group : suc (suc (suc (suc s))) / 4 ≡ suc (s / 4) = omega arith in
    let place : suc (suc (suc (suc s))) % 4 ≡ s % 4 = omega arith in
    get_or-registers_in G s d (omega arith) ∙ sym (λ i. get_or (group_fields (get_or (g ∷ G) (group i) d)) (place i) 0)

-- a group with one register written
pub registers_in-set : (G : List (List ℕ)) (s v : ℕ) (h d : List ℕ) → s < 4 * length G → group_fields h ≡ set (group_fields (get_or G (s / 4) d)) (s % 4) v →
    registers_in (set G (s / 4) h) ≡ set (registers_in G) s v
registers_in-set [] s v h d l e = absurd (omega arith)
registers_in-set (g ∷ G) zero v h d l e = ap (λ R. R ++ registers_in G) e
registers_in-set (g ∷ G) (suc zero) v h d l e = ap (λ R. R ++ registers_in G) e
registers_in-set (g ∷ G) (suc (suc zero)) v h d l e = ap (λ R. R ++ registers_in G) e
registers_in-set (g ∷ G) (suc (suc (suc zero))) v h d l e = ap (λ R. R ++ registers_in G) e
registers_in-set (g ∷ G) (suc (suc (suc (suc s)))) v h d l e =
    let group : suc (suc (suc (suc s))) / 4 ≡ suc (s / 4) = omega arith in
    let place : suc (suc (suc (suc s))) % 4 ≡ s % 4 = omega arith in
    let there : group_fields h ≡ set (group_fields (get_or G (s / 4) d)) (s % 4) v = e ∙ (λ i. set (group_fields (get_or (g ∷ G) (group i) d)) (place i) v) in
    ap (λ n. registers_in (set (g ∷ G) n h)) group ∙ ap (λ R. group_fields g ++ R) (registers_in-set G s v h d (omega arith) there)

-- the bytes of groups are those of their registers
pub field_bytes-registers_in : (G : List (List ℕ)) → All IsGroup G → flat_map (λ g. g) G ++ 0 ∷ [] ≡ field_bytes (registers_in G)
field_bytes-registers_in [] h = refl
field_bytes-registers_in (g ∷ G) h =
    let n : ℕ = group_number g in
    let bytes : List ℕ = group_bytes (n % 64) (n / 64 % 64) (n / 4096 % 64) (n / 262144) in
    let back : bytes ≡ g = group_bytes-group_fields g (h 0 [] (omega arith)) in
    append_assoc g (flat_map (λ x. x) G) (0 ∷ []) ∙ (λ i. sym back i ++ field_bytes-registers_in G (All-tail IsGroup g G h) i)

-- groups with the same registers are the same
pub registers_in-same : (G H : List (List ℕ)) → All IsGroup G → All IsGroup H → registers_in G ≡ registers_in H → G ≡ H
registers_in-same [] [] a b e = refl
registers_in-same [] (h ∷ H) a b e = absurd (omega (arith, ap length e))
registers_in-same (g ∷ G) [] a b e = absurd (omega (arith, ap length e))
registers_in-same (g ∷ G) (h ∷ H) a b e =
    let first : group_fields g ≡ group_fields h = ap (take 4) e in
    let rest : registers_in G ≡ registers_in H = ap (drop 4) e in
    let same : g ≡ h = group_same g h (a 0 [] (omega arith)) (b 0 [] (omega arith)) first in
    let same_rest : G ≡ H = registers_in-same G H (All-tail IsGroup g G a) (All-tail IsGroup h H b) rest in
    λ i. same i ∷ same_rest i

-- groups of zeros
pub registers_in-replicate : (n : ℕ) → registers_in (replicate n (0 ∷ 0 ∷ 0 ∷ [])) ≡ replicate (4 * n) 0
registers_in-replicate zero = refl
registers_in-replicate (suc n) =
    (λ i. 0 ∷ 0 ∷ 0 ∷ 0 ∷ registers_in-replicate n i) ∙ ap (λ m. replicate m 0) (let more : suc (suc (suc (suc (4 * n)))) ≡ 4 * suc n = omega arith in more)

-- the first n groups are the first 4 n registers
pub take-registers_in : (n : ℕ) (G : List (List ℕ)) → take (4 * n) (registers_in G) ≡ registers_in (take n G)
take-registers_in zero G = refl
take-registers_in (suc n) [] = take_all (4 * suc n) [] (omega arith)
take-registers_in (suc n) (g ∷ G) =
    ap (λ m. take m (registers_in (g ∷ G))) (let more : 4 * suc n ≡ suc (suc (suc (suc (4 * n)))) = omega arith in more) ∙ ap (λ R. group_fields g ++ R) (take-registers_in n G)

pub drop-registers_in : (n : ℕ) (G : List (List ℕ)) → drop (4 * n) (registers_in G) ≡ registers_in (drop n G)
drop-registers_in zero G = refl
drop-registers_in (suc n) [] = drop_all (4 * suc n) [] (omega arith)
drop-registers_in (suc n) (g ∷ G) =
    ap (λ m. drop m (registers_in (g ∷ G))) (let more : 4 * suc n ≡ suc (suc (suc (suc (4 * n)))) = omega arith in more) ∙ drop-registers_in n G

-- ---- bytes as groups

-- chunks of three bytes are groups
pub All-IsGroup-first_chunks : (n : ℕ) (b : List ℕ) → 3 * n ≤ length b → All (λ v. v < 256) b → All IsGroup (first_chunks 3 n b)
All-IsGroup-first_chunks zero b h bytes = λ k d l. absurd (omega arith)
All-IsGroup-first_chunks (suc n) b h bytes =
    let group : IsGroup (take 3 b) = record { three = length-take-le 3 b (omega arith); bytes = All-take (λ v. v < 256) 3 b bytes } in
    let rest : All IsGroup (first_chunks 3 n (drop 3 b)) = All-IsGroup-first_chunks n (drop 3 b) (omega (arith, length-drop 3 b)) (All-drop (λ v. v < 256) 3 b bytes) in
    All-cons IsGroup (take 3 b) (first_chunks 3 n (drop 3 b)) group rest

-- their registers are those in the bytes, except for up to two bytes at the end
pub registers_in-first_chunks : (n : ℕ) (b : List ℕ) → 3 * n ≤ length b → length b < 3 * n + 3 → registers_in (first_chunks 3 n b) ≡ fields b
registers_in-first_chunks zero [] h l = refl
registers_in-first_chunks zero (a ∷ []) h l = refl
registers_in-first_chunks zero (a ∷ b ∷ []) h l = refl
registers_in-first_chunks zero (a ∷ b ∷ c ∷ rest) h l = absurd (omega arith)
registers_in-first_chunks (suc n) [] h l = absurd (omega arith)
registers_in-first_chunks (suc n) (a ∷ []) h l = absurd (omega arith)
registers_in-first_chunks (suc n) (a ∷ b ∷ []) h l = absurd (omega arith)
registers_in-first_chunks (suc n) (a ∷ b ∷ c ∷ rest) h l = ap (λ R. group_fields (a ∷ b ∷ c ∷ []) ++ R) (registers_in-first_chunks n rest (omega arith) (omega arith))

-- there are four registers for each three bytes
pub length-fields : (n : ℕ) (b : List ℕ) → length b ≡ 3 * n + 1 → length (fields b) ≡ 4 * n
length-fields zero (a ∷ []) e = refl
length-fields n [] e = absurd (omega arith)
length-fields (suc n) (a ∷ []) e = absurd (omega arith)
length-fields n (a ∷ b ∷ []) e = absurd (omega arith)
length-fields zero (a ∷ b ∷ c ∷ rest) e = absurd (omega arith)
length-fields (suc n) (a ∷ b ∷ c ∷ rest) e = omega (arith, length-fields n rest (omega arith))

-- ---- sums

-- the weights of registers are at most 2^63 each
pub units-le : (R : List ℕ) → units R ≤ length R * 2 ^ 63
units-le R = sum_by-le (λ v. 2 ^ (63 - v)) (2 ^ 63) R (λ k d h. pow_mono (let less : 63 - get_or R k d ≤ 63 = omega arith in less))

-- ---- whether all are 0

is_zero : (g : List ℕ) → IsGroup g → list_all (λ b. b == 0) g ≡ list_all (λ v. v == 0) (group_fields g)
is_zero g is = elim (cases_eq (group_number g) 0) [
  | inl none ↦
      let a : get_or g 0 0 ≡ 0 = omega arith in
      let b : get_or g 1 0 ≡ 0 = omega arith in
      let c : get_or g 2 0 ≡ 0 = omega arith in
      let zeros : g ≡ 0 ∷ 0 ∷ 0 ∷ [] = three g is.three ∙ (λ i. a i ∷ b i ∷ c i ∷ []) in
      subst (λ h. list_all (λ b. b == 0) h ≡ list_all (λ v. v == 0) (group_fields h)) (sym zeros) refl
  | inr some ↦
      let byte : list_all (λ b. b == 0) g ≡ true → (k : ℕ) → k < 3 → get_or g k 0 ≡ 0 = λ t k h. eqb-true _ 0 (AllPass-from_list_all (λ b. b == 0) g t k 0 (omega (arith, is.three))) in
      let field : list_all (λ v. v == 0) (group_fields g) ≡ true → (k : ℕ) → k < 4 → get_or (group_fields g) k 0 ≡ 0 = λ t k h. eqb-true _ 0 (AllPass-from_list_all (λ v. v == 0) (group_fields g) t k 0 h) in
      false_from_ne_true _ (λ t. some (omega (arith, byte t 0 (omega arith), byte t 1 (omega arith), byte t 2 (omega arith))))
      ∙ sym (false_from_ne_true _ (λ t. some (omega (arith, field t 0 (omega arith), field t 1 (omega arith), field t 2 (omega arith), field t 3 (omega arith)))))
]

-- bytes of zeros are registers of zeros
pub list_all-registers_in : (G : List (List ℕ)) → All IsGroup G → list_all (λ b. b == 0) (flat_map (λ g. g) G) ≡ list_all (λ v. v == 0) (registers_in G)
list_all-registers_in [] h = refl
list_all-registers_in (g ∷ G) h =
    list_all-append (λ b. b == 0) g (flat_map (λ g. g) G)
    ∙ (λ i. is_zero g (h 0 [] (omega arith)) i && list_all-registers_in G (All-tail IsGroup g G h) i)
    ∙ sym (list_all-append (λ v. v == 0) (group_fields g) (registers_in G))

-- ---- equality

-- groups are equal if their registers are
pub pointwise-registers_in : (G H : List (List ℕ)) → All IsGroup G → All IsGroup H → pointwise (pointwise nat_eq) G H ≡ pointwise nat_eq (registers_in G) (registers_in H)
pointwise-registers_in G H a b =
    let groups = slice_eq-Decides bytes_decides G H (pointwise (pointwise nat_eq) G H) refl in
    let registers = bytes_decides (registers_in G) (registers_in H) in
    both_ways _ _ (λ t. registers.1 (ap registers_in (groups.0 t))) (λ t. groups.1 (registers_in-same G H a b (registers.0 t)))
