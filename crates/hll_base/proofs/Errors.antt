-- SPDX-License-Identifier: Apache-2.0
-- Lemmas on errors that are passed on.
use Rattle.std.proofs.Common.{◌≡◌, Result, Ok, Err, sym, subst}
use Rattle.std.specs.Result.{IfErr, OnErr, IsErrAnd}

-- what holds for an error holds for the result that passes it on
pub IfErr-passed : {T E : Type 0} (P : E → Type 0) (r : Result T E) (e : E) → IsErrAnd r (λ f. f ≡ e) → P e → IfErr r P
IfErr-passed P (Ok x) e h f = tt
IfErr-passed P (Err g) e h f = subst P (sym h) f

-- what always holds also holds on an error
pub OnErr-of : {T E : Type 0} (r : Result T E) (P : Type 0) → P → OnErr r P
OnErr-of (Ok x) P p = tt
OnErr-of (Err e) P p = p
