-- SPDX-License-Identifier: Apache-2.0
-- What bytes are read as: a legal sketch, and only one.
use Rattle.std.proofs.Common.{◌≡◌, ℕ, ◌<◌, List, take, drop, sym, ◌∙◌}
use Rattle.std.proofs.lemmas.List.{take-append-drop}
use Rattle.std.proofs.lemmas.List.Elements.{All-take}
use Rattle.hll_sketch.specs.Image.{AreBytes, IsReadAs}
use Rattle.hll_sketch.specs.Value.{Sketch, IsLegal}
use Rattle.hll_sketch.proofs.Images.{one_image}
use Rattle.hll_sketch.proofs.LegalImages.{image_is_legal}

-- bytes are read as a legal sketch
pub read_is_legal : (b : List ℕ) (x : Sketch) → AreBytes b → IsReadAs b x → IsLegal x
read_is_legal b x bytes read = image_is_legal (take read.size b) x (All-take (λ c. c < 256) read.size b bytes) read.image

-- bytes are read as only one sketch
pub one_read : (b : List ℕ) (x y : Sketch) → IsReadAs b x → IsReadAs b y → x ≡ y
one_read b x y here there =
    (one_image (take here.size b) (take there.size b) (drop here.size b) (drop there.size b) x y here.image there.image
    (take-append-drop here.size b ∙ sym (take-append-drop there.size b))).1
