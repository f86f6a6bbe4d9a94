-- SPDX-License-Identifier: Apache-2.0
-- Lemmas on bytes that are written piece by piece.
use Rattle.std.proofs.Common.{arith, ◌≡◌, ℕ, List, ◌++◌, sym, ◌∙◌, ap, append_assoc, Option, Result, Ok, Err}
use Rattle.std.specs.Prelude.{IsErrAnd}
use Rattle.std.specs.Io.KnownBytes.{Appends}
use Rattle.std.proofs.lemmas.List.{length-append}
use Rattle.hll_text.specs.declared.fault.Fault.{Fault}
use Rattle.hll_text.specs.declared.fault.Fault.TheVariants.{Write}
use Rattle.hll_text.proofs.StreamLemmas.{Appends-more}
use Rattle.hll_text.specs.Refusal.{AppendsFront, Sends}

-- a prefix of the first piece
pub front-first : (old new : Option (List ℕ)) (xs ys : List ℕ) → AppendsFront old new xs → AppendsFront old new (xs ++ ys)
front-first old new xs ys h = record {
  sent = h.sent;
  rest = h.rest ++ ys;
  parts = ap (λ zs. zs ++ ys) h.parts ∙ append_assoc h.sent h.rest ys;
  lacks = omega (arith, h.lacks, length-append h.rest ys);
  appended = h.appended;
}

-- the first piece, and a prefix of the second
pub front-second : (old mid new : Option (List ℕ)) (xs ys : List ℕ) → Appends old mid xs → AppendsFront mid new ys → AppendsFront old new (xs ++ ys)
front-second old mid new xs ys h k = record {
  sent = xs ++ k.sent;
  rest = k.rest;
  parts = ap (λ zs. xs ++ zs) k.parts ∙ sym (append_assoc xs k.sent k.rest);
  lacks = k.lacks;
  appended = Appends-more old mid new xs k.sent h k.appended;
}

-- the first piece was written, and then the second is
pub Sends-second : {T : Type 0} (old mid new : Option (List ℕ)) (r : Result T Fault) (xs ys : List ℕ)
    → Appends old mid xs → Sends mid new r ys → Sends old new r (xs ++ ys)
Sends-second old mid new (Ok x) xs ys h k = Appends-more old mid new xs ys h k
Sends-second old mid new (Err e) xs ys h k = (k.0, front-second old mid new xs ys h k.1)

-- the first piece failed
pub Sends-failed : {T : Type 0} (old new : Option (List ℕ)) (r : Result T Fault) (e : Fault) (xs ys : List ℕ)
    → IsErrAnd r (λ x. x ≡ e) → ((e ≡ Write) × AppendsFront old new xs) → Sends old new r (xs ++ ys)
Sends-failed old new (Ok x) e xs ys h k = elim h [ ]
Sends-failed old new (Err x) e xs ys h k = (h ∙ k.0, front-first old new xs ys k.1)
