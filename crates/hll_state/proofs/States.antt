-- SPDX-License-Identifier: Apache-2.0
-- States in elements.
use Rattle.std.proofs.Common.{◌≡◌, ℕ, ◌+◌, ◌-◌, ◌^◌, ◌<◌, ◌≤◌, List, [], ◌∷◌, ◌++◌, length, take, drop, take-append-drop, Some, sym, ap, subst, ◌∙◌, arith, refl}
use Rattle.std.specs.Prelude.{max}
use Rattle.std.proofs.Math.Pow.{pow_mono}
use Rattle.std.proofs.Math.Seq.{drop-append_seam}
use Rattle.std.proofs.lemmas.List.{length-append, length-take-le, take_at}
use Rattle.std.proofs.lemmas.List.{length-drop, take_all, drop_all, append-nil}
use borrow.Rule.Slice.PartMut.{mid_of, put_mid}
use Rattle.hll_sketch.specs.Value.{Sketch, IsLegal, IsLegalContent}
use Rattle.hll_state.proofs.Rooms.{room_fewer}
use Rattle.hll_state.specs.Counter.{sketch_in, content_of}
use Rattle.hll_state.specs.CouponRun.{raws}
use Rattle.hll_state.specs.Header.{header_of, IsWithin, HasRoom, most_used}
use Rattle.hll_state.specs.Joined.{AreEnoughToMerge}
use Rattle.hll_state.specs.Memory.{HasHeader, IsStateOf, OfState, HasWidths, IsGrownBy, GrowsBy, IsOnlyRead, IsReady, AreEnough, is_open}
use Rattle.hll_state.specs.Merged.{AreHeldRegistersLegal, HasLegalRegisters}
use Rattle.hll_state.specs.declared.header.Header.{Header}
use Rattle.hll_state.specs.declared.header.Held.{Held}
use Rattle.hll_state.specs.declared.header.Held.TheVariants.{Coupons, Registers}
use Rattle.hll_state.proofs.Prefixes.{read_prefix}

-- elements have one header
pub one_header : (elements : List (List ℕ)) (g h : Header) → HasHeader elements g → HasHeader elements h → g ≡ h
one_header elements g h is other = let same : Some g ≡ Some h = sym is.read ∙ other.read in cc

-- the elements after the first ten
pub rest_of : (elements body : List (List ℕ)) → 10 ≤ length elements → drop 10 (take 10 elements ++ body) ≡ body
rest_of elements body there = ap (λ n. drop n (take 10 elements ++ body)) (sym (length-take-le 10 elements there)) ∙ drop-append_seam (take 10 elements) body

-- the elements after the first ten when they are borrowed, before and after they are written
pub rest_borrowed : (elements : List (List ℕ)) → mid_of 10 (length elements - 10) elements ≡ drop 10 elements
rest_borrowed elements = take_all (length elements - 10) (drop 10 elements) (omega (arith, length-drop 10 elements))

pub rest_written : (elements body : List (List ℕ)) → 10 ≤ length elements → drop 10 (put_mid 10 (length elements - 10) elements body) ≡ body
rest_written elements body there =
    let k : ℕ = length elements - 10 in
    rest_of elements (body ++ drop k (drop 10 elements)) there
    ∙ ap (λ zs. body ++ zs) (drop_all k (drop 10 elements) (omega (arith, length-drop 10 elements))) ∙ append-nil body

-- they are as many as before, and the first ten say what they said
pub size_written : (elements body : List (List ℕ)) → 10 ≤ length elements → length body ≡ length elements - 10 → length (put_mid 10 (length elements - 10) elements body) ≡ length elements
size_written elements body there l =
    let k : ℕ = length elements - 10 in
    let after : List (List ℕ) = drop k (drop 10 elements) in
    omega (
      arith,
      there,
      l,
      length-append (take 10 elements) (body ++ after),
      length-append body after,
      length-drop k (drop 10 elements),
      length-drop 10 elements,
      length-take-le 10 elements there,
    )

front_written : (elements body : List (List ℕ)) → 10 ≤ length elements → take (10 + 0) (put_mid 10 (length elements - 10) elements body) ≡ take (10 + 0) elements
front_written elements body there = take_at (take 10 elements) (body ++ drop (length elements - 10) (drop 10 elements)) 10 (length-take-le 10 elements there)

read_written : (elements body : List (List ℕ)) → 10 ≤ length elements → length body ≡ length elements - 10 → header_of (raws (put_mid 10 (length elements - 10) elements body)) ≡ header_of (raws elements)
read_written elements body there l =
    let written : List (List ℕ) = put_mid 10 (length elements - 10) elements body in
    sym (read_prefix written 0 (omega (arith, there, size_written elements body there l))) ∙ ap (λ xs. header_of (raws xs)) (front_written elements body there) ∙ read_prefix elements 0 there

-- the header that is read of a state is its own, whatever is written over the elements after it
pub opened : (elements body : List (List ℕ)) (h g : Header) → HasHeader elements h → sketch_in g body ≡ sketch_in h (mid_of 10 (length elements - 10) elements)
    → sketch_in g body ≡ sketch_in h (drop 10 elements)
opened elements body h g has same = same ∙ ap (sketch_in h) (rest_borrowed elements)

-- the sketch of a state
pub means : (elements : List (List ℕ)) (h : Header) → HasHeader elements h → IsStateOf elements (sketch_in h (drop 10 elements))
means elements h has = record { state = record { header = h; has = has }; is = refl }

-- the sketch of elements with a header of their own
pub kept : (old new : List (List ℕ)) (g h : Header) → HasHeader old g → HasHeader new h → sketch_in h (drop 10 new) ≡ sketch_in g (drop 10 old) → OfState old (IsStateOf new)
kept old new g h was is same = record {
  sketch = sketch_in g (drop 10 old);
  was = means old g was;
  is = record { state = record { header = h; has = is }; is = sym same };
}

-- ---- widths

pub same_widths : (elements : List (List ℕ)) (g : Header) → HasHeader elements g → HasWidths elements g.widths
same_widths elements g is h has = ap (λ (h : Header). h.widths) (one_header elements h g has is)

-- ---- what a state takes

-- what holds of a header that was read and of one that was written holds of the states
pub grows : (n : ℕ) (old new : List (List ℕ)) (h g : Header) → HasHeader old h → HasHeader new g → IsGrownBy n h g → GrowsBy n old new
grows n old new h g was is grown x had y has = subst (IsGrownBy n x) (one_header new g y is has) (subst (λ (x : Header). IsGrownBy n x g) (one_header old h x was had) grown)

pub grows_own : (n : ℕ) (elements : List (List ℕ)) → GrowsBy n elements elements
grows_own n elements h had g has = record {
  widths = sym (same_widths elements g has h had);
  takes = λ room enough. room_fewer g 0 n room (omega arith) (subst (λ (x : Header). HasRoom x n room) (one_header elements h g had has) enough);
}

pub grows_more : (n : ℕ) (old new : List (List ℕ)) → GrowsBy 0 old new → GrowsBy n old new
grows_more n old new none h had g has = record {
  widths = (none h had g has).widths;
  takes = λ room enough. (none h had g has).takes room (room_fewer h 0 n room (omega arith) enough);
}

-- elements that aren't written
pub read_own : (elements : List (List ℕ)) → IsOnlyRead elements elements
read_own elements = record {
  kept = λ s. record { sketch = sketch_in s.header (drop 10 elements); was = means elements s.header s.has; is = means elements s.header s.has };
  grows = grows_own 0 elements;
  resolved = λ h has is. refl;
  unchanged = λ none. refl;
  lg_k_open = refl;
}

-- ---- an open lg_k

-- it stays if only elements after the header are written
pub open_written : (elements body : List (List ℕ)) → 10 ≤ length elements → is_open (put_mid 10 (length elements - 10) elements body) ≡ is_open elements
open_written [] body there = absurd (omega (arith, there))
open_written (a ∷ []) body there = absurd (omega (arith, there))
open_written (a ∷ b ∷ rest) body there = refl

-- elements of the same length that say the same have the same header
pub same_header : (old new : List (List ℕ)) (h : Header) → HasHeader old h → header_of (raws new) ≡ header_of (raws old) → length new ≡ length old → HasHeader new h
same_header old new h has same long = record { there = omega (arith, has.there, long); read = same ∙ has.read; within = subst (λ l. IsWithin h (l - 10)) (sym long) has.within }

-- elements whose header is not written keep it
pub written_header : (elements body : List (List ℕ)) (h : Header) → HasHeader elements h → length body ≡ length elements - 10 → HasHeader (put_mid 10 (length elements - 10) elements body) h
written_header elements body h has l =
    same_header elements (put_mid 10 (length elements - 10) elements body) h has (read_written elements body has.there l) (size_written elements body has.there l)

-- ---- repeated coupons

-- ---- a state that is ready for n coupons

module _ (n : ℕ) (old new : List (List ℕ)) (h : Header) (ready : IsReady n old new h) (same : length new ≡ length old) where
  pub ready_size : length (mid_of 10 (length new - 10) new) ≡ length old - 10
  ready_size = ap length (rest_borrowed new) ∙ length-drop 10 new ∙ ap (λ l. l - 10) same

  pub ready_within : IsWithin h (length (mid_of 10 (length new - 10) new))
  ready_within = subst (IsWithin h) (sym ready_size) ready.within

  pub ready_room : HasRoom h n (length (mid_of 10 (length new - 10) new))
  ready_room = subst (HasRoom h n) (sym ready_size) ready.room

  pub written_size : (body : List (List ℕ)) → length body ≡ length (mid_of 10 (length new - 10) new) → length (put_mid 10 (length new - 10) new body) ≡ length old
  written_size body l = size_written new body (omega (arith, ready.there, same)) (omega (arith, l, ready_size, same)) ∙ same

  pub written_within : (body : List (List ℕ)) → length body ≡ length (mid_of 10 (length new - 10) new) → length (mid_of 10 (length new - 10) new) ≡ length (put_mid 10 (length new - 10) new body) - 10
  written_within body l = ready_size ∙ ap (λ m. m - 10) (sym (written_size body l))

  -- after its sketch was changed, and its header was written
  pub closed : (f : Sketch → Sketch) (g : Header) (body final : List (List ℕ)) → sketch_in g body ≡ f (sketch_in h (mid_of 10 (length new - 10) new)) → HasHeader final g
      → drop 10 final ≡ drop 10 (put_mid 10 (length new - 10) new body) → OfState old (λ x. IsStateOf final (f x))
  closed f g body final made has rest =
      let there : 10 ≤ length new = omega (arith, ready.there, same) in
      let is : f ready.means.sketch ≡ sketch_in g (drop 10 final) = ap f (ready.means.is ∙ ap (sketch_in h) (sym (rest_borrowed new))) ∙ sym made ∙ ap (sketch_in g) (sym (rest ∙ rest_written new body there)) in
      record { sketch = ready.means.sketch; was = ready.means.was; is = record { state = record { header = g; has = has }; is = is } }

  -- its widths stay, and it takes no more elements than were enough
  pub closed_grows : (g : Header) (final : List (List ℕ)) → HasHeader final g → g.widths ≡ h.widths → ((len : ℕ) → HasRoom h n len → HasRoom g 0 len) → GrowsBy n old final
  closed_grows g final has kept_widths takes x had y is =
      subst (IsGrownBy n x) (one_header final g y has is) (record { widths = kept_widths ∙ sym (ready.widths x had); takes = λ len enough. takes len (ready.keeps x had n len enough) })

-- enough elements are fewer than 2^32
pub enough_fits : (elements : List (List ℕ)) (n len : ℕ) → AreEnough elements n len → len < 2 ^ 32
enough_fits elements n len enough =
    let k : ℕ = enough.header.lg_k in
    let most : k ≤ 21 = enough.has.within.lg_k.high in
    let up : 2 ^ (k - 2) ≤ 2 ^ 19 = pow_mono {i = k - 2} {j = 19} (omega (arith, most)) in
    let used : most_used k ≤ 2 ^ 18 = pow_mono {i = max 4 (k - 3)} {j = 18} (omega (arith, most)) in
    omega (arith, enough.most, up, used)

-- a legal sketch has legal registers
pub legal_registers : (h : Header) (body : List (List ℕ)) → IsLegal (sketch_in h body) → HasLegalRegisters h body
legal_registers h body legal = of h.held legal.content
  where
    of : (held : Held) → IsLegalContent h.lg_k (content_of h.lg_k held body) → AreHeldRegistersLegal h.lg_k held body
    of (Coupons c) legal = tt
    of (Registers s) legal = legal.0

pub merge_fits : (y : Sketch) (h : Header) (len : ℕ) → AreEnoughToMerge y h len → len < 2 ^ 32
merge_fits y h len enough =
    let up : 2 ^ (h.lg_k - 2) ≤ 2 ^ 19 = pow_mono {i = h.lg_k - 2} {j = 19} (omega (arith, enough.lg_k.high)) in
    let used : most_used h.lg_k ≤ 2 ^ 18 = pow_mono {i = max 4 (h.lg_k - 3)} {j = 18} (omega (arith, enough.lg_k.high)) in
    omega (arith, enough.most, up, used)

-- elements that are written over by themselves
pub rest_same : (elements : List (List ℕ)) → put_mid 10 (length elements - 10) elements (mid_of 10 (length elements - 10) elements) ≡ elements
rest_same elements =
    ap (λ ys. take 10 elements ++ ys) (take-append-drop (length elements - 10) (drop 10 elements)) ∙ take-append-drop 10 elements

-- what was read of a state, where the elements after its header are borrowed
pub read_at : (old new : List (List ℕ)) (h : Header) → OfState old (λ x. x ≡ sketch_in h (drop 10 new)) → OfState old (λ x. x ≡ sketch_in h (mid_of 10 (length new - 10) new))
read_at old new h of = record { sketch = of.sketch; was = of.was; is = of.is ∙ ap (sketch_in h) (sym (rest_borrowed new)) }
