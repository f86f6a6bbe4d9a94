-- SPDX-License-Identifier: Apache-2.0
-- States that are moved to other memory.
use Rattle.std.proofs.Common.{◌≡◌, ℕ, ◌+◌, ◌-◌, ◌≤◌, ◌++◌, length, take, drop, take-append-drop, sym, ap, subst, ◌∙◌, arith}
use Rattle.std.specs.FinSet.{len}
use Rattle.hll_sketch.specs.Value.{Content, coupons, registers}
use Rattle.hll_state.specs.Header.{HasRoom, HasRoomFor}
use Rattle.hll_state.specs.Joined.{started_header}
use Rattle.hll_state.specs.Merged.{HasRoomForContent, HasRoomToMerge}
use Rattle.hll_state.specs.Prefixes.{needed, IsSameState, MovedIsState, AskedIsEnough, AskedIsEnoughToJoin}
use Rattle.hll_state.specs.declared.header.Header.{Header}
use Rattle.hll_state.specs.declared.header.Held.{Held}
use Rattle.hll_state.specs.declared.header.Held.TheVariants.{Coupons, Registers}
use Rattle.hll_state.proofs.Prefixes.{prefix_is_state, longer_is_state}
use Rattle.hll_state.proofs.States.{one_header}

pub moved_is_state : MovedIsState
moved_is_state elements others h has same =
    let m : ℕ = needed h.lg_k h.held in
    let front : IsSameState elements h (take (10 + m) elements) = prefix_is_state elements h m has (omega arith) in
    let back : IsSameState (take (10 + m) elements) h (take (10 + m) elements ++ drop (10 + m) others) =
    longer_is_state (take (10 + m) elements) (drop (10 + m) others) h front.has in
    let whole : take (10 + m) elements ++ drop (10 + m) others ≡ others = ap (λ xs. xs ++ drop (10 + m) others) (sym same) ∙ take-append-drop (10 + m) others in
    subst (IsSameState elements h) whole (record { has = back.has; lg_k_open = back.lg_k_open ∙ front.lg_k_open; same = back.same ∙ front.same })

-- room in some elements is room in more
roomier : (k : ℕ) (held : Held) (n room more : ℕ) → room ≤ more → HasRoomFor k held n room → HasRoomFor k held n more
roomier k (Coupons c) n room more le has = omega (arith, le, has)
roomier k (Registers s) n room more le has = omega (arith, le, has)

pub asked_is_enough : AskedIsEnough
asked_is_enough elements others n len are same fits g has =
    subst (λ h. HasRoom h n (length others - 10)) (one_header others are.header g same.has has)
    (roomier are.header.lg_k are.header.held n (len - 10) (length others - 10) (omega (arith, fits)) are.room)

-- so it is for the content of a sketch
content_roomier : (h : Header) (k : ℕ) (content : Content) (room more : ℕ) → room ≤ more → HasRoomForContent h k content room → HasRoomForContent h k content more
content_roomier h k (coupons S size) room more le has = roomier h.lg_k h.held (len S) room more le has
content_roomier h k (registers R state) room more le has = omega (arith, le, has)

pub asked_is_enough_to_join : AskedIsEnoughToJoin
asked_is_enough_to_join elements others h bounded y asked are same fits g has =
    subst (λ x. HasRoomToMerge (started_header bounded x y) y (length others - 10)) (one_header others h g same.has has)
    (λ some. content_roomier (started_header bounded h y) y.lg_k y.content (asked - 10) (length others - 10) (omega (arith, fits)) (are.room some))
