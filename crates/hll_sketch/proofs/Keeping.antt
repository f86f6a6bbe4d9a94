-- SPDX-License-Identifier: Apache-2.0
-- A table and one more coupon, in the terms of the definitions.
use Rattle.std.proofs.Common.{◌≡◌, ℕ, ◌&&◌, true, false, leb, [], ◌∷◌, Result, Ok, Err, OnOk, OnErr, refl, sym, ap, ◌∙◌}
use Rattle.std.specs.FinSet.{insert, union, len}
use Rattle.std.proofs.lemmas.Bool.{le-leb, lt-leb, and_parts, true≢false}
use Rattle.hll_coupons.specs.Insertion.{IsInsertion, IfTaken}
use Rattle.hll_coupons.specs.declared.container.Insertion.{Insertion}
use Rattle.hll_coupons.specs.declared.container.Insertion.TheVariants.{Added, Held, Refused}
use Rattle.hll_coupons.specs.Pair.{Pairs, set_of}
use Rattle.hll_coupons.specs.Table.{Table, coupons_of}
use Rattle.hll_coupons.proofs.Listed.{finds}
use Rattle.hll_registers.specs.Store.{Stored, update_with_pairs, update_with_coupon}
use Rattle.hll_sketch.specs.Stage.{can_hold, sizes, stage}
use Rattle.hll_sketch.specs.Value.{coupons, registers}
use Rattle.hll_sketch.specs.Adding.{content_for, content_with}
use Rattle.hll_sketch.specs.Layout.{Layout, list, set, array, can_hold_with, IsSize, NeedsMemory, TableChanges}
use Rattle.hll_coupons.proofs.Unions.{insert-union}
use Rattle.hll_sketch.proofs.Steps.{stage_stays}

-- what becomes of coupons that no longer fit their table
pub content_for_as : (k : ℕ) (t u : Table) (c n : ℕ) → t ≡ u → n ≡ len (insert (coupons_of t) c) →
    content_for k (insert (coupons_of t) c) (stage k t.lg_size n) ≡ content_with k (coupons (coupons_of u) u.lg_size) (set_of (c ∷ []))
content_for_as k t u c n e count =
    ap (λ m. content_for k (insert (coupons_of t) c) (stage k t.lg_size m)) count
    ∙ ap (λ (v : Table). content_for k (insert (coupons_of v) c) (stage k v.lg_size (len (insert (coupons_of v) c)))) e
    ∙ ap (λ T. content_for k T (stage k u.lg_size (len T))) (insert-union (coupons_of u) c)

pub holds_as : (t u : Table) (c n : ℕ) → t ≡ u → n ≡ len (insert (coupons_of t) c) → can_hold t.lg_size n ≡ can_hold u.lg_size (len (insert (coupons_of u) c))
holds_as t u c n e count = ap (can_hold t.lg_size) count ∙ ap (λ (v : Table). can_hold v.lg_size (len (insert (coupons_of v) c))) e

-- a table that doesn't hold its coupons and this one changes when it is added
changes : (k : ℕ) (t : Table) (c : ℕ) → can_hold t.lg_size (len (insert (coupons_of t) c)) ≡ false → TableChanges k t c
changes k t c leaves stays =
    let n : ℕ = len (union (coupons_of t) (set_of (c ∷ []))) in
    let found : (leb t.lg_size t.lg_size && can_hold t.lg_size n) ≡ true = (finds (λ size. leb t.lg_size size && can_hold size n) (sizes k) t.lg_size stays).1 in
    true≢false (sym (and_parts (leb t.lg_size t.lg_size) (can_hold t.lg_size n) found).1 ∙ sym (ap (λ S. can_hold t.lg_size (len S)) (insert-union (coupons_of t) c)) ∙ leaves)

-- so an update that replaces it may need an allocation
pub needs_memory : (k : ℕ) (l : Layout) (c : ℕ) → can_hold_with l c ≡ false → NeedsMemory k l c
needs_memory k (list width t) c leaves = changes k t c leaves
needs_memory k (set width t) c leaves = changes k t c leaves
needs_memory k (array width x e) c leaves = absurd (true≢false leaves)

-- what becomes of a table that holds its coupons
pub stays_as : (k : ℕ) (t : Table) (c : ℕ) (S : Pairs) (size : ℕ) → IsSize k t.lg_size → can_hold t.lg_size (len (insert (coupons_of t) c)) ≡ true →
    S ≡ insert (coupons_of t) c → size ≡ t.lg_size → coupons S size ≡ content_with k (coupons (coupons_of t) t.lg_size) (set_of (c ∷ []))
stays_as k t c S size is holds' members same =
    (λ i. coupons (members i) (same i))
    ∙ ap (content_for k (insert (coupons_of t) c)) (sym (stage_stays k t.lg_size (len (insert (coupons_of t) c)) is holds'))
    ∙ ap (λ T. content_for k T (stage k t.lg_size (len T))) (insert-union (coupons_of t) c)

-- what adding a coupon to a table with the most coupons that it can hold gives
pub taken_as : (k : ℕ) (t : Table) (c most : ℕ) (r : Insertion) (S : Pairs) (size : ℕ) → IsSize k t.lg_size → ((n : ℕ) → can_hold t.lg_size n ≡ leb n most) →
    IsInsertion (coupons_of t) c most r → (r ≡ Refused → ⊥) → IfTaken r (S ≡ insert (coupons_of t) c) → size ≡ t.lg_size →
    coupons S size ≡ content_with k (coupons (coupons_of t) t.lg_size) (set_of (c ∷ []))
taken_as k t c most Added S size is bound few none members same = stays_as k t c S size is (bound _ ∙ le-leb _ most few.1) members same
taken_as k t c most Held S size is bound few none members same = stays_as k t c S size is (bound _ ∙ le-leb _ most few.1) members same
taken_as k t c most Refused S size is bound few none members same = absurd (none refl)

pub refused_as : (t : Table) (c most : ℕ) (r : Insertion) → ((n : ℕ) → can_hold t.lg_size n ≡ leb n most) → IsInsertion (coupons_of t) c most r → r ≡ Refused →
    can_hold t.lg_size (len (insert (coupons_of t) c)) ≡ false
refused_as t c most Added bound few e = cc
refused_as t c most Held bound few e = cc
refused_as t c most Refused bound many e = bound _ ∙ lt-leb _ most many

pub updated_as : (k : ℕ) (x y : Stored) (c : ℕ) → x.lg_k ≡ k → y ≡ update_with_coupon x c → registers y.registers y.state ≡ content_with k (registers x.registers x.state) (set_of (c ∷ []))
updated_as k x y c same e =
    ap (λ (z : Stored). registers z.registers z.state) e
    ∙ ap (λ m. let z : Stored = update_with_pairs (record { lg_k = m; registers = x.registers; state = x.state }) (set_of (c ∷ [])) in registers z.registers z.state) same

-- what follows from either result
pub either_way : {X E : Type 0} (r : Result X E) (P Q T : Type 0) → OnOk r P → OnErr r Q → (P → T) → (Q → T) → T
either_way (Ok x) P Q T p q f h = f p
either_way (Err e) P Q T p q f h = h q
