-- Words that carry an image are looked at as the image is, unless the look at the image meets a byte that is unwritten. Assumes nothing.
use mathlib.Core.Path.{◌≡◌, refl, ap}
use mathlib.Core.Logic.{◌⊎◌, inl, inr, ⊎_elim}
use mathlib.Core.Bool.{Bool, true, false, ◌&&◌}
use mathlib.Core.List.{List}
use Prim.Native.Nat.{ℕ}
use lib.Dec.{ltb}
use lib.ListN.{length, get_or}
use borrow.Author.Tests.{ltb-true}
use Rattle.ground_setup.specs.Setup.{wrap_of, ahead_of}
use Rattle.ground_setup.specs.declared.Setup.{Setup}
use Rattle.ground_setup.specs.declared.Size.{Size}
use Rattle.ground_orders.specs.declared.Mode.{Mode}
use Rattle.ground_groups.specs.declared.Group.{Group}
use Rattle.ground_groups.specs.declared.Group.TheVariants as group
use Rattle.ground_groups.specs.Groups.{group_by, pair_of, words_group, image_group}
use Rattle.ground_look.specs.declared.Fault.TheVariants.{Unwritten}
use Rattle.ground_look.specs.declared.Look.{Look}
use Rattle.ground_look.specs.declared.Look.TheVariants as look
use Rattle.ground_look.specs.declared.Begun.{Begun}
use Rattle.ground_look.specs.declared.Begun.TheVariants as begun
use Rattle.ground_look.specs.Look.{first_by, second_by, look_of}
use Rattle.ground_look.specs.Loaded.{Carries}

-- the first is unwritten, or the second is the same
abbrev Either-group : Group → Group → Type 0
Either-group g h = (g ≡ group.Unwritten) ⊎ (h ≡ g)

abbrev Either-look : Look → Look → Type 0
Either-look l k = (l ≡ look.Fault Unwritten) ⊎ (k ≡ l)

by_second : (s : Size) (b : Begun) (g h : Group) → Either-group g h → Either-look (second_by s b g) (second_by s b h)
by_second s (begun.Done l) g h e = inr refl
by_second s (begun.Target may next) g h e =
    ⊎_elim (λ u. inl (ap (second_by s (begun.Target may next)) u)) (λ q. inr (ap (second_by s (begun.Target may next)) q)) e
by_second s (begun.Coordinate b₁ b₂ next) g h e =
    ⊎_elim (λ u. inl (ap (second_by s (begun.Coordinate b₁ b₂ next)) u)) (λ q. inr (ap (second_by s (begun.Coordinate b₁ b₂ next)) q)) e

module _ (words image : List ℕ) (carries : Carries words image) where
  by_inside : (a₁ a₂ : ℕ) (t₁ t₂ : Bool) → ltb a₁ (length image) ≡ t₁ → ltb a₂ (length image) ≡ t₂
      → Either-group (group_by (t₁ && t₂) true true a₁ a₂ (get_or image a₁ 0) (get_or image a₂ 0)) (pair_of (get_or words a₁ 0) (get_or words a₂ 0) a₁ a₂)
  by_inside a₁ a₂ true true e₁ e₂ =
      let l₁ = carries a₁ (ltb-true a₁ (length image) e₁) in
      let l₂ = carries a₂ (ltb-true a₂ (length image) e₂) in
      inr (simp (l₁.written, l₂.written, l₁.good, l₂.good, l₁.byte, l₂.byte))
  by_inside a₁ a₂ true false e₁ e₂ = inl refl
  by_inside a₁ a₂ false t₂ e₁ e₂ = inl refl

  module _ (su : Setup) where
    either_group : (a : ℕ) → Either-group (image_group image su a) (words_group words su a)
    unfolding words_group image_group
    either_group a = by_inside (wrap_of su.size a) (ahead_of su.size a 1) _ _ refl refl

    by_first : (a : ℕ) (m : Mode) (g h : Group) → Either-group g h
        → Either-look (second_by su.size (first_by su a m g) (image_group image su (ahead_of su.size a 2)))
        (second_by su.size (first_by su a m h) (words_group words su (ahead_of su.size a 2)))
    by_first a m g h e =
        ⊎_elim
        (λ u. inl (ap (λ (x : Group). second_by su.size (first_by su a m x) (image_group image su (ahead_of su.size a 2))) u))
        (λ q. rw q (by_second su.size (first_by su a m g) (image_group image su (ahead_of su.size a 2)) (words_group words su (ahead_of su.size a 2)) (either_group (ahead_of su.size a 2))))
        e

    either_look : (a : ℕ) (m : Mode) → Either-look (look_of (image_group image su) su a m) (look_of (words_group words su) su a m)
    unfolding look_of
    either_look a m = by_first a m (image_group image su a) (words_group words su a) (either_group a)

    pub same_look : (a : ℕ) (m : Mode) → (look_of (image_group image su) su a m ≡ look.Fault Unwritten → ⊥)
        → look_of (words_group words su) su a m ≡ look_of (image_group image su) su a m
    same_look a m written = ⊎_elim (λ u. absurd (written u)) (λ q. q) (either_look a m)
