-- SPDX-License-Identifier: Apache-2.0
use Rattle.std.proofs.Common.{◌≡◌, ℕ, ◌*◌, ◌%◌, ◌^◌, ◌<◌, ◌≤◌, List, All, length, get_or, sym, ap, subst, ◌∙◌, arith, rules}
use Rattle.std.proofs.Math.ListN.{set}
use Rattle.std.proofs.Math.Nat.{mod-lt}
use Rattle.std.proofs.lemmas.Nat.{pow_pos}
use Rattle.std.proofs.lemmas.List.{with_items_is}
use Rattle.std.specs.Vec.{with_items}
use Rattle.hll_coupons.specs.Pair.{slot_of, value_of}
use Rattle.hll_kernels.specs.Groups.{registers_in, IsGroup}
use Rattle.hll_registers.specs.State.{cleared_state}
use Rattle.hll_registers.specs.Store.{Stored, update_with_coupon}
use Rattle.hll_kernels.proofs.Grouping.{size-AreGroups, length-registers_in}
use Rattle.hll_registers.proofs.Raising.{update_with_pairs-low, update_with_pairs-high}
use Rattle.std.specs.Prelude.{IfSome}
use Rattle.hll_kernels.specs.Packed.{zeros}
use Rattle.hll_arrays.proofs.ZeroCounts.{slot_within, some_zero, zeros_set}
use Rattle.hll_arrays.proofs.array6.Array6.update.Goals as goal

pub register_at-register-requires : goal.register_at-register-requires
register_at-register-requires g c =
    let k : ℕ = c.self.inside.lg_config_k in
    let G : List (List ℕ) = c.self.inside.groups.items in
    let size : 4 * length G ≡ 2 ^ k = size-AreGroups k G (omega (arith, c.self.invariant.0)) c.self.invariant.2 in
    let at : c.slot.result % c.two_to.result ≡ c.slot.result % 2 ^ k = ap (λ n. c.slot.result % n) c.two_to.ensures in
    omega (arith, at, size, ap length c.deref.ensures.value, mod-lt c.slot.result (pow_pos k))

pub put_register-requires-clause-within : goal.put_register-requires-clause-within
put_register-requires-clause-within g c =
    let k : ℕ = c.self.inside.lg_config_k in
    let G : List (List ℕ) = c.self.inside.groups.items in
    let size : 4 * length G ≡ 2 ^ k = size-AreGroups k G (omega (arith, c.self.invariant.0)) c.self.invariant.2 in
    let at : c.slot.result % c.two_to.result ≡ c.slot.result % 2 ^ k = ap (λ n. c.slot.result % n) c.two_to.ensures in
    omega (arith, at, size, ap length c.deref_mut.ensures.value, mod-lt c.slot.result (pow_pos k))

pub returns-then-register-value : goal.returns-then-register-value
returns-then-register-value g c =
    let k : ℕ = c.self.inside.lg_config_k in
    let G : List (List ℕ) = c.self.inside.groups.items in
    let R : List ℕ = registers_in G in
    let slot : ℕ = slot_of c.args.coupon % 2 ^ k in
    let size : length R ≡ 2 ^ k = length-registers_in G ∙ size-AreGroups k G (omega (arith, c.self.invariant.0)) c.self.invariant.2 in
    let at : c.slot.result % c.two_to.result ≡ slot = λ i. c.slot.ensures.slot i % c.two_to.ensures i in
    let within : slot < length R = omega (arith, size, mod-lt (slot_of c.args.coupon) (pow_pos k)) in
    let old : c.register_at-register.result ≡ get_or R slot 0 = c.register_at-register.ensures ∙ (λ i. get_or (registers_in (c.deref.ensures.value i)) (at i) 0) in
    let high : get_or R slot 0 < value_of c.args.coupon = omega (arith, old, c.if-register-value.true, c.value.ensures.value) in
    let registers : registers_in (with_items c.self.inside.groups c.put_register.new.groups).items ≡ set R slot (value_of c.args.coupon) =
    ap registers_in (with_items_is c.self.inside.groups c.put_register.new.groups (c.put_register.ensures.len ∙ c.deref_mut.ensures.len)) ∙ c.put_register.ensures.registers
    ∙ (λ i. set (registers_in (c.deref_mut.ensures.value i)) (at i) (c.value-then-register-value.ensures.value i)) in
    let written : Stored = record { lg_k = k; registers = registers_in (with_items c.self.inside.groups c.put_register.new.groups).items; state = cleared_state } in
    subst (λ z. written ≡ update_with_coupon z c.args.coupon) c.self.view_is
    ((λ i. record { lg_k = k; registers = registers i; state = cleared_state }) ∙ update_with_pairs-high k R c.args.coupon size c.self.inside.state within high)

pub returns-else-register-value : goal.returns-else-register-value
returns-else-register-value g c =
    let k : ℕ = c.self.inside.lg_config_k in
    let G : List (List ℕ) = c.self.inside.groups.items in
    let R : List ℕ = registers_in G in
    let slot : ℕ = slot_of c.args.coupon % 2 ^ k in
    let size : length R ≡ 2 ^ k = length-registers_in G ∙ size-AreGroups k G (omega (arith, c.self.invariant.0)) c.self.invariant.2 in
    let at : c.slot.result % c.two_to.result ≡ slot = λ i. c.slot.ensures.slot i % c.two_to.ensures i in
    let old : c.register_at-register.result ≡ get_or R slot 0 = c.register_at-register.ensures ∙ (λ i. get_or (registers_in (c.deref.ensures.value i)) (at i) 0) in
    let low : value_of c.args.coupon ≤ get_or R slot 0 = omega (arith, old, c.if-register-value.false, c.value.ensures.value) in
    subst (λ z. z ≡ update_with_coupon z c.args.coupon) c.self.view_is (update_with_pairs-low k R c.args.coupon size c.self.inside.state low)

pub zeros_left-self-inside-requires : goal.zeros_left-self-inside-requires
zeros_left-self-inside-requires g c =
    let k : ℕ = c.self.inside.lg_config_k in
    let G : List (List ℕ) = c.self.inside.groups.items in
    let R : List ℕ = registers_in G in
    let t : ℕ = c.slot.result % c.two_to.result in
    let size : length R ≡ 2 ^ k = length-registers_in G ∙ size-AreGroups k G (omega (arith, c.self.invariant.0)) c.self.invariant.2 in
    let within : t < length R = slot_within c.slot.result c.two_to.result k R c.two_to.ensures size in
    let old : c.register_at-register.result ≡ get_or R t 0 = c.register_at-register.ensures ∙ ap (λ G. get_or (registers_in G) t 0) c.deref.ensures.value in
    record { some = λ none. some_zero c.self.inside.zero_count R t c.register_at-register.result c.self.invariant.4 within old none }

pub invariant_of-self : goal.invariant_of-self
invariant_of-self g c =
    let k : ℕ = c.self.inside.lg_config_k in
    let G : List (List ℕ) = c.self.inside.groups.items in
    let R : List ℕ = registers_in G in
    let t : ℕ = c.slot.result % c.two_to.result in
    let size : length R ≡ 2 ^ k = length-registers_in G ∙ size-AreGroups k G (omega (arith, c.self.invariant.0)) c.self.invariant.2 in
    let within : t < length R = slot_within c.slot.result c.two_to.result k R c.two_to.ensures size in
    let old : c.register_at-register.result ≡ get_or R t 0 = c.register_at-register.ensures ∙ ap (λ G. get_or (registers_in G) t 0) c.deref.ensures.value in
    let above : 0 < c.value-then-register-value.result = omega (arith, c.if-register-value.true, c.value.ensures.value, c.value-then-register-value.ensures.value) in
    let items : (with_items c.self.inside.groups c.put_register.new.groups).items ≡ c.put_register.new.groups = with_items_is c.self.inside.groups c.put_register.new.groups (c.put_register.ensures.len ∙ c.deref_mut.ensures.len) in
    let after : registers_in (with_items c.self.inside.groups c.put_register.new.groups).items ≡ set R t c.value-then-register-value.result =
    ap registers_in items ∙ c.put_register.ensures.registers
    ∙ ap (λ G. set (registers_in G) t c.value-then-register-value.result) c.deref_mut.ensures.value in (
      c.self.invariant.0,
      c.self.invariant.1,
      record { size = ap length items ∙ c.put_register.ensures.len ∙ ap length c.deref_mut.ensures.value ∙ c.self.invariant.2.size; bytes = subst (All IsGroup) (sym items) c.put_register.ensures.groups },
      search rules,
      subst (λ R. IfSome c.zeros_left-self-inside.result (λ n. n ≡ zeros R)) (sym after)
          (zeros_set c.self.inside.zero_count c.zeros_left-self-inside.result R t c.value-then-register-value.result c.register_at-register.result c.self.invariant.4 c.zeros_left-self-inside.ensures.left within old above),
    )
