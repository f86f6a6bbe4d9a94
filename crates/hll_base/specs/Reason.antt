-- SPDX-License-Identifier: Apache-2.0
-- The numbers, words and kinds of the reasons for an error.
use Rattle.std.specs.Prelude.{ℕ, List, codes}
use Rattle.hll_base.specs.declared.error.Reason.{Reason}
use Rattle.hll_base.specs.declared.error.Reason.TheVariants as reasons
use Rattle.hll_base.specs.declared.error.ErrorKind.{ErrorKind}
use Rattle.hll_base.specs.declared.error.ErrorKind.TheVariants as kinds

-- the number of a reason
abbrev pub number_of : Reason → ℕ
number_of reasons.Truncated = 1
number_of reasons.Family = 2
number_of reasons.Version = 3
number_of reasons.LgK = 4
number_of reasons.Width = 5
number_of reasons.Stage = 6
number_of reasons.Preamble = 7
number_of reasons.LgArr = 8
number_of reasons.Count = 9
number_of reasons.Coupon = 10
number_of reasons.Register = 11
number_of reasons.Argument = 12
number_of reasons.Memory = 13

-- the word that is printed for a reason
abbrev pub word_of : Reason → List ℕ
word_of reasons.Truncated = codes "truncated"
word_of reasons.Family = codes "family"
word_of reasons.Version = codes "version"
word_of reasons.LgK = codes "lgk"
word_of reasons.Width = codes "width"
word_of reasons.Stage = codes "stage"
word_of reasons.Preamble = codes "preamble"
word_of reasons.LgArr = codes "lgarr"
word_of reasons.Count = codes "count"
word_of reasons.Coupon = codes "coupon"
word_of reasons.Register = codes "register"
word_of reasons.Argument = codes "argument"
word_of reasons.Memory = codes "memory"

-- the kind of a reason
abbrev pub kind_of : Reason → ErrorKind
kind_of reasons.Argument = kinds.InvalidArgument
kind_of reasons.Memory = kinds.OutOfMemory
kind_of reasons.Truncated = kinds.InvalidData
kind_of reasons.Family = kinds.InvalidData
kind_of reasons.Version = kinds.InvalidData
kind_of reasons.LgK = kinds.InvalidData
kind_of reasons.Width = kinds.InvalidData
kind_of reasons.Stage = kinds.InvalidData
kind_of reasons.Preamble = kinds.InvalidData
kind_of reasons.LgArr = kinds.InvalidData
kind_of reasons.Count = kinds.InvalidData
kind_of reasons.Coupon = kinds.InvalidData
kind_of reasons.Register = kinds.InvalidData
