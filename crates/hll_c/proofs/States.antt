-- SPDX-License-Identifier: Apache-2.0
-- Lemmas on states.
use Rattle.std.proofs.Common.{◌≡◌, ◌≢◌, ℕ, ◌+◌, ◌-◌, ◌<◌, ◌≤◌, List, [], ◌∷◌, length, drop, get_or, refl, sym, ap, subst, ◌∙◌, arith, true, false, not, nat_eq, Option, Some, None, inl, inr}
use borrow.Rule.Slice.PartMut.{mid_of, put_mid}
use Rattle.std.specs.FinSet.{len}
use Rattle.std.proofs.lemmas.Bool.{cases_Bool}
use Rattle.std.proofs.lemmas.List.{drop_more, drop_all}
use Rattle.hll_base.specs.Reason.{number_of}
use Rattle.hll_base.specs.declared.error.Reason.{Reason}
use Rattle.hll_base.specs.declared.error.Reason.TheVariants.{Argument, Memory, Register}
use Rattle.hll_base.specs.declared.hll_type.HllType.{HllType}
use Rattle.hll_coupons.specs.Coupons.{coupon_bytes, IsAscending}
use Rattle.hll_coupons.specs.Pair.{Pairs, set_of}
use Rattle.hll_sketch.specs.Adding.{add}
use Rattle.hll_sketch.specs.Laws.{add_in_turn}
use Rattle.hll_sketch.specs.EstimatorFields.{FillsFields, stays}
use Rattle.hll_sketch.specs.Stage.{stage}
use Rattle.hll_sketch.specs.Value.{Sketch, Content, coupons, IsTableFor, IsLegal}
use Rattle.hll_sketch.specs.Written.{coupon_image}
use Rattle.hll_state.specs.Counter.{sketch_in, content_of_coupons}
use Rattle.hll_state.specs.Header.{IsWithin, HasRoom}
use Rattle.hll_state.specs.Joined.{IsJoined}
use Rattle.hll_state.specs.Memory.{HasHeader, IsState, OfState}
use Rattle.hll_state.specs.declared.header.Header.{Header}
use Rattle.hll_state.specs.declared.header.CouponTable.{CouponTable}
use Rattle.hll_state.specs.declared.join.Joined.{Joined}
use Rattle.hll_state.proofs.Rooms.{staged_table, room_fewer}
use Rattle.hll_state.proofs.States.{means, read_at, rest_borrowed, rest_written}
use Rattle.hll_state.proofs.Tables.{content-taken, content-staged}
use Rattle.hll_c.specs.Answers.{IsImageOf, WithFields}
use Rattle.hll_c.specs.Calls.{bits_of}
use Rattle.hll_c.specs.Estimates.{IsEstimateOfCoupons, IsEstimateOfContent}
use Rattle.hll_c.specs.States.{IsBoundFor, least_bound, Joins, IsOfState, SaysEstimateOfState, RefusesState, state_argument, state_register, state_memory}
use Rattle.hll_c.specs.declared.estimate.HllEstimate.{HllEstimate}
use Rattle.hll_c.proofs.Answers.{made_with_fields}

-- the coupons from an index on are left to be added
pub record AddsLeft (first : Header) (first_body : List (List ℕ)) (h : Header) (body : List (List ℕ)) (cs : List ℕ) (i : ℕ) : Type 0 where
  pub within : IsWithin h (length body)
  pub room : HasRoom h (length cs - i) (length body)
  pub widths : h.widths ≡ first.widths
  pub takes : (n len : ℕ) → HasRoom first (n + i) len → HasRoom h n len
  pub same : add_in_turn (sketch_in h body) (drop i cs) ≡ add_in_turn (sketch_in first first_body) cs

pub room_for_one : (h : Header) (n i room : ℕ) → i < n → HasRoom h (n - i) room → HasRoom h ((n - (i + 1)) + 1) room
room_for_one h n i room inside has = subst (λ m. HasRoom h m room) (let e : n - i ≡ (n - (i + 1)) + 1 = omega (arith, inside) in e) has

one_later : (h : Header) (n i len : ℕ) → HasRoom h (n + (i + 1)) len → HasRoom h (n + 1 + i) len
one_later h n i len has = subst (λ m. HasRoom h m len) (let e : n + (i + 1) ≡ n + 1 + i = omega arith in e) has

-- what was enough for all is enough for none more once all were added
pub none_left : (first h : Header) (count i len : ℕ) → i ≤ count → ((n len : ℕ) → HasRoom first (n + i) len → HasRoom h n len) → HasRoom first count len → HasRoom h 0 len
none_left first h count i len within takes enough = takes 0 len (room_fewer first (0 + i) count len (omega (arith, within)) enough)

pub pushed : (first : Header) (first_body : List (List ℕ)) (h g : Header) (body new : List (List ℕ)) (cs : List ℕ) (i d c : ℕ) → i < length cs → get_or cs i d ≡ c
    → AddsLeft first first_body h body cs i → length new ≡ length body → IsWithin g (length body) → ((n len : ℕ) → HasRoom h (n + 1) len → HasRoom g n len)
    → sketch_in g new ≡ add (sketch_in h body) (set_of (c ∷ [])) → g.widths ≡ h.widths → AddsLeft first first_body g new cs (i + 1)
pushed first first_body h g body new cs i d c inside is left size within room made widths = record {
  widths = widths ∙ left.widths;
  takes = λ n len enough. room n len (left.takes (n + 1) len (one_later first n i len enough));
  within = subst (IsWithin g) (sym size) within;
  room = subst (HasRoom g (length cs - (i + 1))) (sym size) (room (length cs - (i + 1)) (length body) (room_for_one h (length cs) i (length body) inside left.room));
  same = ap (λ x. add_in_turn x (drop (i + 1) cs)) (made ∙ ap (λ c. add (sketch_in h body) (set_of (c ∷ []))) (sym is))
      ∙ sym (ap (add_in_turn (sketch_in h body)) (drop_more cs i d inside)) ∙ left.same;
}

pub all_pushed : (first : Header) (first_body : List (List ℕ)) (h : Header) (body : List (List ℕ)) (cs : List ℕ) (i : ℕ) → length cs ≤ i → AddsLeft first first_body h body cs i
    → sketch_in h body ≡ add_in_turn (sketch_in first first_body) cs
all_pushed first first_body h body cs i all left = sym (ap (add_in_turn (sketch_in h body)) (drop_all i cs all)) ∙ left.same

-- ---- merging

pub no_memory : Argument ≡ Memory → ⊥
no_memory same = let other : 12 ≡ 13 = ap number_of same in omega (arith, other)

-- what merging gives for the elements after a header, it gives for the state
pub joined_within : (lg_max_k o : ℕ) (y : Sketch) (old final body : List (List ℕ)) (h g : Header) (answer : Joined) → HasHeader old h → IsBoundFor lg_max_k (least_bound old h.lg_k) → HasHeader final g
    → drop 10 final ≡ drop 10 (put_mid 10 (length old - 10) old body) → IsJoined (not (nat_eq lg_max_k 0)) o y h (mid_of 10 (length old - 10) old) g body answer
    → Joins lg_max_k o y old final answer
joined_within lg_max_k o y old final body h g answer had bound has rest is =
    let b = not (nat_eq lg_max_k 0) in
    record {
      before = record { header = h; has = had; bound = bound };
      after = g;
      has = has;
      is = subst (λ xs. IsJoined b o y h xs g (drop 10 final) answer) (rest_borrowed old)
          (subst (λ ys. IsJoined b o y h (mid_of 10 (length old - 10) old) g ys answer) (sym (rest ∙ rest_written old body had.there)) is);
    }

-- ---- images

-- the size of the table of resolved coupons
pub record HasTable (k : ℕ) (c : CouponTable) (n size : ℕ) : Type 0 where
  pub taken : c.added ≡ false → size ≡ c.lg_size
  pub added : c.added ≡ true → stage k c.lg_size n ≡ Some size

pub table_for : (k : ℕ) (c : CouponTable) (n size : ℕ) → HasTable k c n size → (c.added ≡ false → IsTableFor k n c.lg_size) → IsTableFor k n size
table_for k c n size has of = elim (cases_Bool c.added) [
  | inl yes' ↦ staged_table k c.lg_size n size (has.added yes')
  | inr other ↦ subst (IsTableFor k n) (sym (has.taken other)) (of other)
]

pub content_in_table : (k : ℕ) (c : CouponTable) (S : Pairs) (n size : ℕ) → HasTable k c n size → n ≡ len S → content_of_coupons k c S ≡ coupons S size
content_in_table k c S n size has count = elim (cases_Bool c.added) [
  | inl yes' ↦ content-staged k size c S yes' (ap (stage k c.lg_size) (sym count) ∙ has.added yes')
  | inr other ↦ content-taken k size c S other (has.taken other)
]

-- coupons in ascending order, written with their table
pub coupons_written : (k : ℕ) (w : HllType) (C : Content) (S : Pairs) (size : ℕ) (bytes order image : List ℕ) → C ≡ coupons S size → IsAscending order S → bytes ≡ coupon_bytes order
    → ((order : List ℕ) → bytes ≡ coupon_bytes order → image ≡ coupon_image k w size order) → IsImageOf (FillsFields (record { lg_k = k; width = w; content = C })) image
coupons_written k w C S size bytes order image is up said wrote =
    let x : Sketch = record { lg_k = k; width = w; content = coupons S size } in
    subst (λ C. IsImageOf (FillsFields (record { lg_k = k; width = w; content = C })) image) (sym is)
    (x, stays (λ none. none) refl, record { order = order; ascending = up; is = wrote order said })

-- ---- estimates

-- what is reported of resolved coupons that have a table is their number
pub estimate_in_table : (k : ℕ) (c : CouponTable) (S : Pairs) (n : ℕ) (e : HllEstimate) → (c.added ≡ true → stage k c.lg_size n ≢ None) → n ≡ len S → IsEstimateOfCoupons n e
    → IsEstimateOfContent k (content_of_coupons k c S) e
estimate_in_table k c S n e has count is = elim (cases_Bool c.added) [
  | inl yes' ↦ of yes' (stage k c.lg_size n) refl
  | inr other ↦ subst (λ C. IsEstimateOfContent k C e) (sym (content-taken k c.lg_size c S other refl)) told
]
  where
    told : IsEstimateOfCoupons (len S) e
    told = subst (λ n. IsEstimateOfCoupons n e) count is

    of : c.added ≡ true → (o : Option ℕ) → stage k c.lg_size n ≡ o → IsEstimateOfContent k (content_of_coupons k c S) e
    of added (Some size) found = subst (λ C. IsEstimateOfContent k C e) (sym (content-staged k size c S added (ap (stage k c.lg_size) (sym count) ∙ found))) told
    of added None found = absurd (has added found)

-- ---- errors

pub refuses_no_state : (InRange : Type 0) (old : List (List ℕ)) (e : Reason) → e ≡ Argument → (InRange × IsState old → ⊥) → RefusesState InRange old e
refuses_no_state InRange old e is none = subst (RefusesState InRange old) (sym is) (state_argument none)

pub refuses_register : (InRange : Type 0) (old : List (List ℕ)) (e : Reason) (x : Sketch) → InRange → e ≡ Register → OfState old (λ y. y ≡ x) → (IsLegal x → ⊥) → RefusesState InRange old e
refuses_register InRange old e x in_range is of illegal =
    subst (RefusesState InRange old) (sym is) (state_register in_range (record { sketch = of.sketch; was = of.was; is = λ legal. illegal (subst IsLegal of.is legal) }))

pub refuses_state_memory : (InRange : Type 0) (old : List (List ℕ)) (e : Reason) (x : Sketch) → InRange → e ≡ Memory → OfState old (λ y. y ≡ x) → RefusesState InRange old e
refuses_state_memory InRange old e x in_range is of = subst (RefusesState InRange old) (sym is) (state_memory in_range of.was.state)

-- the sketch of a state, as its elements are borrowed
pub borrowed : (e : List (List ℕ)) (h : Header) → HasHeader e h → OfState e (λ x. x ≡ sketch_in h (mid_of 10 (length e - 10) e))
borrowed e h has = read_at e e h (record { sketch = sketch_in h (drop 10 e); was = means e h has; is = refl })

-- what is made of the sketch that a state has is made of the state: an image at a width, and an estimate
pub image_at : (old : List (List ℕ)) (x : Sketch) (bits : ℕ) (w : HllType) (bytes : List ℕ) → OfState old (λ y. y ≡ x) → bits_of w ≡ bits → IsImageOf (FillsFields (record x { width = w })) bytes
    → IsImageOf (WithFields (IsOfState bits old)) bytes
image_at old x bits w bytes of asked is =
    made_with_fields (IsOfState bits old) (record x { width = w }) bytes
    (record { sketch = of.sketch; was = of.was; is = record { width_is = record { width = w; is = asked }; is = ap (λ (y : Sketch). record y { width = w }) (sym of.is) } }) is

pub estimate_at : (old : List (List ℕ)) (x : Sketch) (e : HllEstimate) → OfState old (λ y. y ≡ x) → IsEstimateOfContent x.lg_k x.content e → SaysEstimateOfState old e
estimate_at old x e of says = record { sketch = of.sketch; was = of.was; is = subst (λ (y : Sketch). IsEstimateOfContent y.lg_k y.content e) (sym of.is) says }
