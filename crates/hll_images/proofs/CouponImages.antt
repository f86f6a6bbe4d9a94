-- SPDX-License-Identifier: Apache-2.0
-- Images of coupons in order, and the union of two such images.
use Rattle.std.proofs.Common.{◌≡◌, ◌≢◌, ℕ, suc, ◌+◌, ◌-◌, ◌/◌, ◌^◌, ◌<◌, ◌≤◌, [], ◌∷◌, ◌&&◌, true, false, nat_eq, List, length, get_or, Option, Some, None, refl, sym, ap, subst, ◌∙◌, arith}
use Rattle.std.specs.FinSet.{union, len, len-empty}
use Rattle.std.specs.Ordering.{nat_cmp}
use Rattle.std.specs.List.Sorted.{IsStrictlyIncreasing}
use Rattle.std.proofs.lemmas.Bool.{cond-true, cond-false, eq-eqb, ne_eqb, true≢false}
use Rattle.hll_base.specs.declared.hll_type.HllType.{HllType}
use Rattle.hll_base.specs.declared.hll_type.HllType.TheVariants.{Hll8}
use Rattle.hll_coupons.specs.Pair.{Pairs, set_of}
use Rattle.hll_coupons.specs.Coupons.{coupon_bytes, IsAscending, WritesAscending}
use Rattle.hll_coupons.proofs.Ascending.{len-ascending}
use Rattle.hll_coupons.proofs.Merging.{count_in_bytes}
use Rattle.hll_sketch.specs.Adding.{add, content_for, content_with}
use Rattle.hll_images.specs.CouponImages.{IsInOrder, order_of, IsOrdered, IsOrderedImage, HaveUnionInTable, IsImageOfUnion, HasCouponsAt, IsImageOfUnionOfOne, AreBothRead, AreFoldedRegisters, IsFoldedImage, IsImageOfBoth, IsImageWith}
use Rattle.hll_sketch.specs.Folding.{IsFoldLgK, folded, folded_content}
use Rattle.hll_sketch.proofs.Folds.{folded_is_legal}
use Rattle.hll_registers.specs.State.{cleared_state}
use Rattle.hll_coupons.specs.Fold.{fold_to}
use Rattle.hll_sketch.specs.Header.{header_of}
use Rattle.hll_images.specs.declared.coupon_images.OrderedImage.{OrderedImage}
use Rattle.hll_sketch.specs.declared.header.Header.{Header}
use Rattle.hll_sketch.specs.Image.{AreBytes, IsReadAs, lg_k_byte, table_byte}
use Rattle.hll_sketch.specs.Merging.{merge, merge_content, empty_union}
use Rattle.hll_sketch.specs.Stage.{stage}
use Rattle.hll_sketch.specs.MergedIn.{IsOfCoupons}
use Rattle.hll_sketch.specs.Value.{Sketch, Content, coupons, registers, in_registers, pairs_in, pairs_of, is_empty, IsLgK, IsTableFor, IsLegal, IsLegalContent}
use Rattle.hll_sketch.specs.Written.{coupon_image, Written}
use Rattle.hll_sketch.proofs.BorrowedCoupons.{none_listed}
use Rattle.hll_sketch.proofs.CouponHeaders.{coupons_say, coupons_have}
use Rattle.hll_sketch.proofs.LegalSketches.{legal_size}
use Rattle.hll_sketch.proofs.MergedImages.{read_is_legal, one_read}
use Rattle.hll_sketch.proofs.Adding.{add_each}
use Rattle.hll_sketch.specs.Laws.{add_in_turn}

module _ (b order : List ℕ) (of : IsOfCoupons b order) where
  -- each sketch that it is read as has the width that its header says
  pub width_in_header : (h : Header) → h ≡ header_of b → (x : Sketch) → IsReadAs b x → x.width ≡ h.hll_type
  width_in_header h is x read = ap (λ (y : Sketch). y.width) (one_read b x of.sketch read of.read) ∙ coupons_have b order of ∙ sym (ap (λ (i : Header). i.hll_type) is)

  -- an image whose coupons are in order
  pub in_order : (k size : ℕ) → k ≡ lg_k_byte b → size ≡ table_byte b → IsStrictlyIncreasing order → IsInOrder b k size order
  in_order k size k_is size_is up = record {
    sketch = of.sketch;
    read = of.read;
    lg_k = (coupons_say b order of).0 ∙ sym k_is;
    content = of.content ∙ ap (coupons (set_of order)) ((coupons_say b order of).1 ∙ sym size_is);
    ascends = up;
  }

-- another list of the same coupons
pub same_coupons : (b xs ys : List ℕ) → IsOfCoupons b xs → set_of ys ≡ set_of xs → IsOfCoupons b ys
same_coupons b xs ys of same = record {
  sketch = of.sketch;
  read = of.read;
  size = of.size;
  content = of.content ∙ ap (λ S. coupons S of.size) (sym same);
}

-- ---- the union

not_empty : (z : Sketch) (P : Pairs) (r : ℕ) → z.content ≡ coupons P r → len P ≢ 0 → is_empty z ≡ false
not_empty z P r is some = ap (λ c. nat_eq (len (pairs_in c)) 0) is ∙ ne_eqb (len P) 0 some

-- a union of these coupons
abbrev union_with : ℕ → Pairs → ℕ → Sketch
union_with k S p = record { lg_k = k; width = Hll8; content = coupons S p }

-- the first sketch is copied with its table
taken_whole : (k : ℕ) (x : Sketch) (S : Pairs) (p : ℕ) → x.lg_k ≡ k → x.content ≡ coupons S p → len S ≢ 0 → merge k (empty_union k) x ≡ union_with k S p
taken_whole k x S p at_k x_is some_x =
    cond-false (is_empty x) (empty_union k) (merge_content k (empty_union k) x x.content) (not_empty x S p x_is some_x)
    ∙ ap (merge_content k (empty_union k) x) x_is
    ∙ cond-true (is_empty (empty_union k) && nat_eq k x.lg_k) (record (empty_union k) { content = x.content }) (add (empty_union k) (pairs_of x)) whole
    ∙ ap (λ c. let z : Sketch = record { lg_k = k; width = Hll8; content = c } in z) x_is
  where
    whole : (is_empty (empty_union k) && nat_eq k x.lg_k) ≡ true
    whole = (λ i. nat_eq (len-empty nat_cmp i) 0 && nat_eq k x.lg_k) ∙ eq-eqb k x.lg_k (sym at_k)

module _ (k : ℕ) (x y : Sketch) (S T : Pairs) (p q : ℕ) (at_k : x.lg_k ≡ k) (x_is : x.content ≡ coupons S p) (y_is : y.content ≡ coupons T q) (some_x : len S ≢ 0) (some_y : len T ≢ 0) where
  abbrev first : Sketch
  first = union_with k S p

  -- the coupons of the second sketch are added
  pub merged : (o : Option ℕ) → stage k p (len (union S T)) ≡ o → merge k (merge k (empty_union k) x) y ≡ record { lg_k = k; width = Hll8; content = content_for k (union S T) o }
  merged o held =
      ap (λ g. merge k g y) (taken_whole k x S p at_k x_is some_x)
      ∙ cond-false (is_empty y) first (merge_content k first y y.content) (not_empty y T q y_is some_y)
      ∙ ap (merge_content k first y) y_is
      ∙ cond-false (is_empty first && nat_eq k y.lg_k) (record first { content = y.content }) (add first (pairs_of y)) (ap (λ b. b && nat_eq k y.lg_k) (ne_eqb (len S) 0 some_x))
      ∙ ap (λ c. add first (pairs_in c)) y_is
      ∙ ap (λ o. let z : Sketch = record { lg_k = k; width = Hll8; content = content_for k (union S T) o } in z) held

-- what is written for the union
module _ (k p : ℕ) (xs ys bytes : List ℕ) (up : WritesAscending coupon_bytes (union (set_of xs) (set_of ys)) bytes) (n : ℕ) (count : n ≡ length bytes / 4) where
  number : n ≡ len (union (set_of xs) (set_of ys))
  number = count ∙ count_in_bytes bytes up.order up.is ∙ len-ascending up.order (union (set_of xs) (set_of ys)) up.ascending

  pub table_of_union : (size : ℕ) → stage k p n ≡ Some size → (order : List ℕ) × (bytes ≡ coupon_bytes order) × IsTableFor k (length order) size
  table_of_union size held = (up.order, up.is, subst (λ m. IsTableFor k m size) (number ∙ sym (len-ascending up.order (union (set_of xs) (set_of ys)) up.ascending)) (legal_size k p n size held))

  pub image_of_both : (size : ℕ) (width : HllType) (image : List ℕ) → stage k p n ≡ Some size → ((order : List ℕ) → bytes ≡ coupon_bytes order → image ≡ coupon_image k width size order)
      → IsImageOfBoth k width p xs ys image
  image_of_both size width image held is = record {
    size_of_both = size;
    held = ap (stage k p) (sym number) ∙ held;
    written = record { order = up.order; ascending = up.ascending; is = is up.order up.is };
  }

  pub none_of_both : stage k p n ≡ None → stage k p (len (union (set_of xs) (set_of ys))) ≡ None
  none_of_both none = ap (stage k p) (sym number) ∙ none

-- coupons in order that are none are those of an empty sketch
empty_order : (b xs : List ℕ) (k size : ℕ) (of : IsInOrder b k size xs) → length xs ≡ 0 → is_empty of.sketch ≡ true
empty_order b [] k size of none = ap (λ c. nat_eq (len (pairs_in c)) 0) of.content ∙ ap (λ n. nat_eq n 0) (len-empty nat_cmp)
empty_order b (x ∷ xs) k size of none = absurd (omega (arith, none))

some_of : (zs : List ℕ) → length zs ≢ 0 → len (set_of zs) ≢ 0
some_of zs has none = has (ap length (none_listed zs none))

module _ (k kl kr p q : ℕ) (left right xs ys : List ℕ) (l : IsInOrder left kl p xs) (r : IsInOrder right kr q ys) (at_k : kl ≡ k) (some : length xs ≢ 0) (others : length ys ≢ 0) where
  pub image_of_union : (width : HllType) (image : List ℕ) → IsLgK kl → IsImageOfBoth k width p xs ys image → IsImageOfUnion k width left right image
  image_of_union width image legal both =
      let U : Pairs = union (set_of xs) (set_of ys) in
      let same : merge k (merge k (empty_union k) l.sketch) r.sketch ≡ record { lg_k = k; width = Hll8; content = coupons U both.size_of_both } =
      merged k l.sketch r.sketch (set_of xs) (set_of ys) p q (l.lg_k ∙ at_k) l.content r.content (some_of xs some) (some_of ys others) (Some both.size_of_both) both.held in
      record {
        bound_is = subst IsLgK at_k legal;
        left_sketch = l.sketch;
        left_read = l.read;
        right_sketch = r.sketch;
        right_read = r.read;
        in_table = ap (λ (z : Sketch). in_registers z.content) same;
        written = subst (λ (z : Sketch). Written image (record z { width = width })) (sym same) both.written;
      }

  -- no table holds the union
  pub no_table : stage k p (len (union (set_of xs) (set_of ys))) ≡ None → HaveUnionInTable k left right → ⊥
  no_table none have =
      let full : merge k (merge k (empty_union k) l.sketch) r.sketch ≡ record { lg_k = k; width = Hll8; content = content_for k (union (set_of xs) (set_of ys)) None } =
      merged k l.sketch r.sketch (set_of xs) (set_of ys) p q (l.lg_k ∙ at_k) l.content r.content (some_of xs some) (some_of ys others) None none in
      true≢false (sym (ap (λ (z : Sketch). in_registers z.content) full) ∙ (have.held l.sketch r.sketch l.read r.read).in_table)

module _ (k kl kr p q : ℕ) (left right xs ys : List ℕ) (l : IsInOrder left kl p xs) (r : IsInOrder right kr q ys) where
  -- the first sketch is not at the bound
  pub other_bound : (kl ≡ k → ⊥) → HaveUnionInTable k left right → ⊥
  other_bound other have = other (sym l.lg_k ∙ (have.held l.sketch r.sketch l.read r.read).lg_k)

  -- one of them has no coupons
  pub none_first : length xs ≡ 0 → HaveUnionInTable k left right → ⊥
  none_first none have = true≢false (sym (empty_order left xs kl p l none) ∙ (have.held l.sketch r.sketch l.read r.read).some)

  pub none_second : length ys ≡ 0 → HaveUnionInTable k left right → ⊥
  none_second none have = true≢false (sym (empty_order right ys kr q r none) ∙ (have.held l.sketch r.sketch l.read r.read).others)

  -- both images are read
  pub both_read : kl ≡ k → IsLgK kl → AreBothRead k left right
  both_read same legal = record { bound_is = subst IsLgK same legal; left_sketch = l.sketch; left_read = l.read; right_sketch = r.sketch; right_read = r.read }

-- raw coupons that ascend from the greatest one with the value 0 ascend
pub ascends_after : (xs : List ℕ) → IsStrictlyIncreasing ((2 ^ 26 - 1) ∷ xs) → IsStrictlyIncreasing xs
ascends_after xs up k within =
    let e : suc k + 1 ≡ suc (k + 1) = omega arith in subst (λ n. get_or xs k 0 < get_or ((2 ^ 26 - 1) ∷ xs) n 0) e (up (suc k) (omega (arith, within)))

-- ---- one image

module _ (k size : ℕ) (b xs : List ℕ) (of : IsInOrder b k size xs) where
  own_order : IsAscending xs (set_of xs)
  own_order = record { increasing = of.ascends; members = refl }

  -- what is written for the fold
  pub image_folded : (e size_at : ℕ) (width : HllType) (image : List ℕ) → of.sketch.width ≡ width → IsLgK e → e ≤ k → stage e 3 (length xs) ≡ Some size_at
      → image ≡ coupon_image e width size_at xs → IsFoldedImage e b image
  image_folded e size_at width image width_is legal within held is = record {
    sketch = of.sketch;
    read = of.read;
    within = record { low = legal.low; high = subst (λ n. e ≤ n) (sym of.lg_k) within };
    in_table = ap (λ (z : Sketch). in_registers z.content) same;
    written = subst (Written image) (sym same) (record { order = xs; ascending = own_order; is = is ∙ ap (λ w. coupon_image e w size_at xs) (sym width_is) });
  }
    where
      content : folded_content of.sketch.lg_k e of.sketch.content ≡ coupons (set_of xs) size_at
      content =
          ap (folded_content of.sketch.lg_k e) of.content
          ∙ ap (λ n. content_for e (set_of xs) (stage e 3 n)) (sym (len-ascending xs (set_of xs) own_order))
          ∙ ap (content_for e (set_of xs)) held

      same : folded of.sketch e ≡ record { lg_k = e; width = of.sketch.width; content = coupons (set_of xs) size_at }
      same = ap (λ c. let z : Sketch = record { lg_k = e; width = of.sketch.width; content = c } in z) content

  -- the registers that the fold has, if no table holds the coupons
  pub registers_folded : (e : ℕ) (width : HllType) (R : List ℕ) → AreBytes b → of.sketch.width ≡ width → IsLgK e → e ≤ k → stage e 3 (length xs) ≡ None
      → R ≡ fold_to (set_of xs) e → AreFoldedRegisters e b width R
  registers_folded e width R are width_is legal within none is = record {
    sketch = of.sketch;
    read = of.read;
    within = in_range;
    is = same;
    legal = (subst IsLegal same (folded_is_legal of.sketch e (read_is_legal b of.sketch are of.read) in_range)).content.0;
  }
    where
      in_range : IsFoldLgK of.sketch.lg_k e
      in_range = record { low = legal.low; high = subst (λ n. e ≤ n) (sym of.lg_k) within }

      content : folded_content of.sketch.lg_k e of.sketch.content ≡ registers R cleared_state
      content =
          ap (folded_content of.sketch.lg_k e) of.content
          ∙ ap (λ n. content_for e (set_of xs) (stage e 3 n)) (sym (len-ascending xs (set_of xs) own_order))
          ∙ ap (content_for e (set_of xs)) none ∙ ap (λ Q. registers Q cleared_state) (sym is)

      same : folded of.sketch e ≡ record { lg_k = e; width = width; content = registers R cleared_state }
      same = λ i. record { lg_k = e; width = width_is i; content = content i }

  -- its table holds the coupons
  pub own_table : AreBytes b → IsTableFor k (length xs) size
  own_table are =
      let legal : IsLegal of.sketch = read_is_legal b of.sketch are of.read in
      let table : IsTableFor of.sketch.lg_k (len (set_of xs)) size = (subst (IsLegalContent of.sketch.lg_k) of.content legal.content).1 in
      subst (λ n. IsTableFor n (length xs) size) of.lg_k (subst (λ n. IsTableFor of.sketch.lg_k n size) (sym (len-ascending xs (set_of xs) own_order)) table)

-- what an image says is ordered
pub is_ordered : (a : OrderedImage) (b : List ℕ) → AreBytes b → IsOrderedImage b a → IsOrdered a
is_ordered a b are of = record {
  lg_k = subst IsLgK of.lg_k (read_is_legal b of.sketch are of.read).lg_k;
  ascends = of.ascends;
  table = own_table a.lg_k a.lg_size b (order_of a) of are;
}

-- ---- the union of one image

module _ (k own size : ℕ) (b xs : List ℕ) (of : IsInOrder b own size xs) where
  pub image_of_one : own ≡ k → length xs ≢ 0 → IsLgK own → (width : HllType) (image : List ℕ) → image ≡ coupon_image own width size xs → IsImageOfUnionOfOne k width b image
  image_of_one same some legal width image is =
      let whole : merge k (empty_union k) of.sketch ≡ union_with k (set_of xs) size = taken_whole k of.sketch (set_of xs) size (of.lg_k ∙ same) of.content (some_of xs some) in
      record {
        bound_is = subst IsLgK same legal;
        sketch = of.sketch;
        read = of.read;
        in_table = ap (λ (z : Sketch). in_registers z.content) whole;
        written = subst (λ (z : Sketch). Written image (record z { width = width })) (sym whole) (record { order = xs; ascending = own_order own size b xs of; is = is ∙ ap (λ n. coupon_image n width size xs) same });
      }

  -- it is not at the bound
  pub at_other : (own ≡ k → ⊥) → HasCouponsAt k b → ⊥
  at_other other has = other (sym of.lg_k ∙ (has.held of.sketch of.read).1)

  -- it has no coupons
  pub none_at : length xs ≡ 0 → HasCouponsAt k b → ⊥
  none_at none has = true≢false (sym (empty_order b xs own size of none) ∙ (has.held of.sketch of.read).0)

-- ---- one image with more coupons

all_added : (x : Sketch) (cs : List ℕ) → 1 ≤ length cs → add_in_turn x cs ≡ add x (set_of cs)
all_added x [] some = absurd (omega (arith, some))
all_added x (c ∷ cs) some = add_each x c cs

module _ (k p : ℕ) (b xs cs ys image : List ℕ) (width : HllType) (of : IsInOrder b k p xs) (width_is : of.sketch.width ≡ width) (some : 1 ≤ length cs) (members : set_of ys ≡ set_of cs)
    (both : IsImageOfBoth k width p xs ys image) where
  abbrev U : Pairs
  U = union (set_of xs) (set_of ys)

  abbrev with_content : Content → Sketch
  with_content content = record of.sketch { content = content }

  added : add_in_turn of.sketch cs ≡ with_content (coupons U both.size_of_both)
  added =
      all_added of.sketch cs some ∙ ap (add of.sketch) (sym members)
      ∙ ap (λ c. with_content (content_with of.sketch.lg_k c (set_of ys))) of.content
      ∙ ap (λ n. with_content (content_for of.sketch.lg_k U (stage n p (len U)))) of.lg_k
      ∙ ap (λ o. with_content (content_for of.sketch.lg_k U o)) both.held

  pub image_with : IsImageWith cs b image
  image_with = record {
    sketch = of.sketch;
    read = of.read;
    in_table = ap (λ (z : Sketch). in_registers z.content) added;
    written = subst (Written image) (sym added) (record {
      order = both.written.order;
      ascending = both.written.ascending;
      is = both.written.is ∙ (λ i. coupon_image (sym of.lg_k i) (sym width_is i) both.size_of_both both.written.order);
    });
  }
