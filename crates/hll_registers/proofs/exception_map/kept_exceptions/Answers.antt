-- SPDX-License-Identifier: Apache-2.0
use Rattle.std.proofs.Common.{◌≡◌, ◌+◌, ◌≤◌, ℕ, Some, sym, subst, ap, ◌∙◌}
use Rattle.std.specs.Prelude.{OnErr}
use Rattle.hll_registers.specs.FourBits.{exception_in, unboxed}
use Rattle.hll_registers.proofs.exception_map.kept_exceptions.Goals as goal

pub returns-in-Some-clause-needed : goal.returns-in-Some-clause-needed
returns-in-Some-clause-needed g c =
    let here : Some c.deref.result.now ≡ unboxed c.args.map.now = ap (λ t. Some t) c.deref.ensures ∙ ap unboxed (sym c.in-Some.is) in
    subst (λ o. OnErr c.kept_entries.result ((s : ℕ) × (v : ℕ) × (exception_in o s ≡ Some v) × (c.args.minimum + 15 ≤ v))) here c.kept_entries.ensures.needed
