-- Groups of two locations (01, "One step of regeneration"), in the words of a buffer and in an image. The device and the validator share
-- what is made of them.
use Rattle.std.specs.Prelude.{ℕ, Bool, true, cond, ◌&&◌, List, ltb, length, get_or}
use Rattle.ground_location.specs.Location.{data_of, written_of, good_of}
use Rattle.ground_setup.specs.Setup.{wrap_of, ahead_of}
use Rattle.ground_setup.specs.declared.Setup.{Setup}
use Rattle.ground_groups.specs.declared.Group.{Group}
use Rattle.ground_groups.specs.declared.Group.TheVariants as group

-- A group of two locations. "Each group of bytes is tested for 1 before its bytes are looked at. For the device, parity of a group is
-- tested after fault 1, lowest place first; bad parity stops with Data Check at that byte"
abbrev pub group_by : Bool → Bool → Bool → ℕ → ℕ → ℕ → ℕ → Group
group_by written good₁ good₂ a₁ a₂ b₁ b₂ =
    cond written (cond good₁ (cond good₂ (group.Bytes b₁ b₂) (group.Bad a₂)) (group.Bad a₁)) group.Unwritten

-- the words w and v at the addresses a and b
abbrev pub pair_of : ℕ → ℕ → ℕ → ℕ → Group
pair_of w v a b = group_by (written_of w && written_of v) (good_of w) (good_of v) a b (data_of w) (data_of v)

-- the group at A in a buffer's words
unfoldable pub words_group : List ℕ → Setup → ℕ → Group
words_group words su a =
    pair_of (get_or words (wrap_of su.size a) 0) (get_or words (ahead_of su.size a 1) 0) (wrap_of su.size a) (ahead_of su.size a 1)

-- the group at A in an image: "An image is L bytes, written from address 0; all else is unwritten."
unfoldable pub image_group : List ℕ → Setup → ℕ → Group
image_group image su a =
    group_by (ltb (wrap_of su.size a) (length image) && ltb (ahead_of su.size a 1) (length image)) true true
    (wrap_of su.size a) (ahead_of su.size a 1) (get_or image (wrap_of su.size a) 0) (get_or image (ahead_of su.size a 1) 0)
