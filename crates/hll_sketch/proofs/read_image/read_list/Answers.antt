-- SPDX-License-Identifier: Apache-2.0
use Rattle.std.proofs.Common.{◌≡◌, ◌≤◌, ◌*◌, List, ℕ, take, drop, length, sym, ap, subst, ◌∙◌, inl, inr}
use Rattle.std.proofs.lemmas.List.{take_rest}
use Rattle.hll_base.proofs.Errors.{IfErr-passed}
use Rattle.hll_base.specs.declared.error.Reason.{Reason}
use Rattle.hll_base.specs.declared.error.Reason.TheVariants as reasons
use Rattle.hll_coupons.specs.Coupons.{AreCoupons}
use Rattle.hll_coupons.specs.Payload.{ListShape, HasListCount, list_table, list_buckets, list_coupons, IsListPayload, ListFault}
use Rattle.hll_coupons.specs.Table.{Table, coupons_of}
use Rattle.hll_sketch.specs.declared.header.Header.{Header}
use Rattle.hll_sketch.specs.Header.{header_of}
use Rattle.hll_sketch.specs.Image.{list_shape, table_byte, IsReadAs}
use Rattle.hll_sketch.specs.Refusal.{IsRefusal}
use Rattle.hll_sketch.specs.Value.{coupons}
use Rattle.hll_sketch.proofs.FirstFailing.{list_first, list_table_first, list_asked}
use Rattle.hll_sketch.proofs.FrontImages.{read_as-list}
use Rattle.hll_sketch.proofs.ListImages.{list_image}
use Rattle.hll_sketch.proofs.Refusals.{refused}
use Rattle.hll_sketch.proofs.read_image.read_list.Goals as goal

pub returns-then-header-ne-LG_LIST_BUCKETS-clause-err : goal.returns-then-header-ne-LG_LIST_BUCKETS-clause-err
returns-then-header-ne-LG_LIST_BUCKETS-clause-err g c =
    let b : List ℕ = c.args.bytes.now in
    subst (IsRefusal b) (sym c.new.ensures)
    (refused b reasons.LgArr (list_table_first b c.requires.has (λ three. c.if-header-ne-LG_LIST_BUCKETS.true (ap (λ (h : Header). h.lg_arr) c.requires.header ∙ three))) (λ e. cc))

-- what was passed to the reader of lists is the shape of the image
same_shape : (b : List ℕ) (h : Header) (size count : ℕ) → h ≡ header_of b → size ≡ 3 → count ≡ h.state_byte
    → (let s : ListShape = record { lg_size = size; count = count; empty = h.empty; compact = h.compact } in s) ≡ list_shape b
same_shape b h size count is three state =
    λ i. record { lg_size = three i; count = (state ∙ ap (λ (x : Header). x.state_byte) is) i; empty = ap (λ (x : Header). x.empty) is i; compact = ap (λ (x : Header). x.compact) is i }

-- the checks up to a wrong number of filled buckets pass
abbrev Right : ListShape → List ℕ → Reason → Type 0
Right h payload e = e ≡ reasons.Count → HasListCount h → AreCoupons (list_coupons h payload)

-- the counts pass their checks, and the bytes are there
abbrev Room : ListShape → List ℕ → Type 0
Room h payload = HasListCount h × (4 * list_buckets h ≤ length payload)

pub returns-in_err-list-clause-err : goal.returns-in_err-list-clause-err
returns-in_err-list-clause-err g c =
    let b : List ℕ = c.args.bytes.now in
    let e = c.in_err-list.field-0.0 in
    let shape = same_shape b c.args.header c.from.result c.from-2.result c.requires.header c.from.ensures c.from-2.ensures in
    let entry = c.new-2.ensures ∙ take_rest b 8 in
    let table : table_byte b ≡ 3 = ap (λ (h : Header). h.lg_arr) (sym c.requires.header) ∙ c.if-header-ne-LG_LIST_BUCKETS.false in
    IfErr-passed (IsRefusal b) c.from_residual.result e c.from_residual.ensures.1 (record {
      first = elim c.in_err-list.ensures.err [
        | inl full ↦ inl full
        | inr f ↦ inr (list_first b e c.requires.has table
            (subst (λ xs. ListFault (list_shape b) xs e) entry (subst (λ h. ListFault h c.new-2.result e) shape f))
            (subst (λ xs. Right (list_shape b) xs e) entry (subst (λ h. Right h c.new-2.result e) shape c.in_err-list.ensures.order)))
      ];
      asked = λ full.
          let room : Room (list_shape b) (drop 8 b) = subst (Room (list_shape b)) entry (subst (λ h. Room h c.new-2.result) shape (c.in_err-list.ensures.asked full)) in
          list_asked b c.requires.has table room.0 room.1;
    })

pub returns-clause-ok : goal.returns-clause-ok
returns-clause-ok g c =
    let b : List ℕ = c.args.bytes.now in
    let t : Table = c.in_ok-list.list in
    let shape = same_shape b c.args.header c.from.result c.from-2.result c.requires.header c.from.ensures c.from-2.ensures in
    let table : table_byte b ≡ 3 = ap (λ (h : Header). h.lg_arr) (sym c.requires.header) ∙ c.if-header-ne-LG_LIST_BUCKETS.false in
    let same = subst (λ h. IsListPayload h (take (4 * list_buckets h) c.new-2.result) × (t ≡ list_table h c.new-2.result)) shape c.in_ok-list.ensures.ok in
    let there = subst (λ xs. IsListPayload (list_shape b) (take (4 * list_buckets (list_shape b)) xs) × (t ≡ list_table (list_shape b) xs)) (c.new-2.ensures ∙ take_rest b 8) same in
    subst (λ (h : Header). IsReadAs b (record { lg_k = h.lg_k; width = h.hll_type; content = coupons (coupons_of t) t.lg_size })) (sym c.requires.header)
    (read_as-list b t (list_image b c.requires.has table there.0) there.1)
