-- SPDX-License-Identifier: Apache-2.0
use Rattle.std.proofs.Common.{◌≡◌, ◌+◌, ◌*◌, ◌≤◌, length, List, ℕ, take, drop, sym, ap, subst, ◌∙◌, inl, inr}
use Rattle.std.proofs.lemmas.Bool.{iff_false}
use Rattle.std.proofs.lemmas.List.{take_rest}
use Rattle.hll_base.proofs.Errors.{IfErr-passed}
use Rattle.hll_base.specs.declared.error.Reason.{Reason}
use Rattle.hll_base.specs.declared.error.Reason.TheVariants as reasons
use Rattle.hll_coupons.specs.Coupons.{AreCoupons}
use Rattle.hll_coupons.specs.Pair.{set_of}
use Rattle.hll_coupons.specs.Payload.{SetShape, shape_of_set, set_coupons, set_buckets, IsSetPayload, HasSetCount, IsSetTable, SetFault}
use Rattle.hll_coupons.specs.Table.{Table, coupons_of}
use Rattle.hll_sketch.specs.Image.{set_shape, HasSetTable, IsReadAs}
use Rattle.hll_sketch.specs.Header.{header_of}
use Rattle.hll_sketch.specs.Refusal.{IsRefusal}
use Rattle.hll_sketch.specs.Value.{coupons}
use Rattle.hll_sketch.specs.declared.header.Header.{Header}
use Rattle.hll_sketch.proofs.FirstFailing.{set_first, set_table_first, set_asked}
use Rattle.hll_sketch.proofs.FrontImages.{read_as-set}
use Rattle.hll_sketch.proofs.Refusals.{refused}
use Rattle.hll_sketch.proofs.read_image.read_set.Goals as goal

-- what was passed to the reader of sets is the shape of the image
same_shape : (b : List ℕ) (h : Header) (lg : ℕ) → h ≡ header_of b → lg ≡ h.lg_arr → shape_of_set lg h.compact ≡ set_shape b
same_shape b h lg is size = λ i. record { lg_size = (size ∙ ap (λ (x : Header). x.lg_arr) is) i; compact = ap (λ (x : Header). x.compact) is i }

pub returns-then-not-is_set_table-clause-err : goal.returns-then-not-is_set_table-clause-err
returns-then-not-is_set_table-clause-err g c =
    let b : List ℕ = c.args.bytes.now in
    let none : HasSetTable b → ⊥ = iff_false (c.is_set_table.ensures b c.requires.header) c.if-not-is_set_table.true in
    subst (IsRefusal b) (sym c.new.ensures) (refused b reasons.LgArr (set_table_first b c.requires.has none) (λ e. cc))

pub returns-then-few_are_faulty-clause-err : goal.returns-then-few_are_faulty-clause-err
returns-then-few_are_faulty-clause-err g c =
    subst (IsRefusal c.args.bytes.now) (sym c.new-then-few_are_faulty.ensures) (refused c.args.bytes.now reasons.Coupon (c.few_are_faulty.ensures c.if-few_are_faulty.true) (λ e. cc))

-- the checks up to a wrong number of filled buckets pass
abbrev Right : SetShape → List ℕ → Reason → Type 0
Right h payload e = e ≡ reasons.Count → HasSetCount h payload → AreCoupons (set_coupons h payload)

-- the count passes its check, and the bytes are there
abbrev Room : SetShape → List ℕ → Type 0
Room h payload = HasSetCount h payload × (4 + 4 * set_buckets h payload ≤ length payload)

pub returns-in_err-set-clause-err : goal.returns-in_err-set-clause-err
returns-in_err-set-clause-err g c =
    let b : List ℕ = c.args.bytes.now in
    let e = c.in_err-set.field-0.0 in
    let table : HasSetTable b = (c.is_set_table.ensures b c.requires.header).0 c.if-not-is_set_table.false in
    let shape = same_shape b c.args.header c.from.result c.requires.header c.from.ensures in
    let entry = c.new-2.ensures ∙ take_rest b 8 in
    IfErr-passed (IsRefusal b) c.from_residual.result e c.from_residual.ensures.1 (record {
      first = elim c.in_err-set.ensures.err [
        | inl full ↦ inl full
        | inr f ↦ inr (set_first b e c.requires.has table
            (subst (λ h. SetFault h (drop 8 b) e) shape (subst (λ xs. SetFault (shape_of_set c.from.result c.args.header.compact) xs e) entry f))
            (subst (λ h. Right h (drop 8 b) e) shape (subst (λ xs. Right (shape_of_set c.from.result c.args.header.compact) xs e) entry c.in_err-set.ensures.order)))
      ];
      asked = λ full.
          let room : Room (set_shape b) (drop 8 b) = subst (λ h. Room h (drop 8 b)) shape (subst (Room (shape_of_set c.from.result c.args.header.compact)) entry (c.in_err-set.ensures.asked full)) in
          set_asked b c.requires.has table room.0 room.1;
    })

-- the set that the reader of the payload gives
abbrev Given : SetShape → List ℕ → Table → Type 0
Given h payload t = IsSetPayload h (take (4 + 4 * set_buckets h payload) payload) × IsSetTable h payload t

pub returns-clause-ok : goal.returns-clause-ok
returns-clause-ok g c =
    let b : List ℕ = c.args.bytes.now in
    let t : Table = c.in_ok-set.set in
    let table : HasSetTable b = (c.is_set_table.ensures b c.requires.header).0 c.if-not-is_set_table.false in
    let shape = same_shape b c.args.header c.from.result c.requires.header c.from.ensures in
    let entry = c.new-2.ensures ∙ take_rest b 8 in
    let same : Given (set_shape b) (drop 8 b) t = subst (λ h. Given h (drop 8 b) t) shape (subst (λ xs. Given (shape_of_set c.from.result c.args.header.compact) xs t) entry c.in_ok-set.ensures.ok) in
    let members : coupons_of t ≡ set_of (set_coupons (set_shape b) (drop 8 b)) = c.in_ok-set.ensures.members ∙ (λ i. set_of (set_coupons (shape i) (entry i))) in
    subst (λ (h : Header). IsReadAs b (record { lg_k = h.lg_k; width = h.hll_type; content = coupons (coupons_of t) t.lg_size })) (sym c.requires.header)
    (read_as-set b t c.requires.has table same.0 same.1.size members)
