-- For the proof of the search alone; what a search answers is in `specs/Search.antt`. A plan (the graph and the store's layout), what one growth
-- does, and what holds in the midst of a level.
use Rattle.std.specs.Prelude.{◌≡◌, ◌⊎◌, Bool, true, false, not, List, ℕ, suc, ◌+◌, ◌*◌, ◌-◌, ◌≤◌, ◌<◌, length, drop, None, Option, Some, Err, Ok, Result}
use Rattle.ground_setup.specs.declared.Setup.{Setup}
use Rattle.ground_look.specs.Look.{fault_number}
use Rattle.ground_look.specs.declared.Fault.{Fault}
use Rattle.validator_walks.specs.Places.{places_of, address_of}
use Rattle.validator_walks.specs.Steps.{Step, Leads, way_of, as_step}
use Rattle.validator_walks.specs.Walks.{Reach, Reached}
use Rattle.validator_store.specs.Layout.{twos_of, base_of, cap_of}
use Rattle.validator_store.specs.Store.{bit_of, tally, entry_at}
use Rattle.validator_search.specs.declared.Met.{Met}

-- where entry j of a stack lies: from the low end up, or from the high end down
abbrev pub slot : Bool → ℕ → ℕ → ℕ → ℕ
slot true base cap j = base + 3 * j
slot false base cap j = base + 3 * (cap - 1 - j)

-- the graph: its steps, its start, a fault's number, a place's address, how many places there are, and below which number both ways of
-- an `either` lie;
-- the store: where the stacks begin and how many entries they have between them
pub record Plan (F : Type 0) : Type 0 where
  pub step : ℕ → Step F ℕ
  pub start : ℕ
  pub number : F → ℕ
  pub address : ℕ → ℕ
  pub places : ℕ
  pub twos : ℕ
  pub base : ℕ
  pub cap : ℕ

-- the graph of an image by its places' numbers, and the store's layout for it
abbrev pub plan_of : List ℕ → Setup → ℕ → Plan Fault
plan_of image su start = record {
  step = λ n. as_step (way_of image su n);
  start = start;
  number = fault_number;
  address = address_of su.size;
  places = places_of su.size;
  twos = twos_of su.size;
  base = base_of su.size;
  cap = cap_of su.size;
}

-- the key of a fault by its number: of two faults the one told first has the lower
abbrev pub key_at : ℕ → ℕ → ℕ
key_at address number = 16 * address + number

-- no fault's key is as high
abbrev pub none : ℕ
none = 16777216

-- the key of the first fault met
abbrev pub key_of : Option Met → ℕ
key_of None = none
key_of (Some met) = key_at met.at (fault_number met.fault)

-- what the search asks of a plan
pub record Fitted {F : Type 0} (P : Plan F) : Type 0 where
  pub led_lt : (p q : ℕ) → p < P.places → Leads (P.step p) q → q < P.places
  pub two_lt : (p a b : ℕ) → p < P.places → P.step p ≡ Step.either a b → (a < P.twos) × (b < P.twos)
  pub number_lt : (p : ℕ) (f : F) → p < P.places → P.step p ≡ Step.faulty f → P.number f < 16
  pub address_lt : (p : ℕ) → p < P.places → P.address p < 65536
  pub start_lt : P.start < P.places
  pub twos_le : P.twos ≤ P.places
  pub bits : P.places ≤ 8 * P.base
  pub stacks : P.twos < 2 * P.cap
  pub small : P.places < 16777216
  pub fits : P.base + 3 * P.cap < 1000000

-- `side` is the stack that grows, from t entries to t'; the other keeps its first `rest`
pub record Grown {F : Type 0} (P : Plan F) (From : ℕ → Type 0) (s s' : List ℕ) (side : Bool) (rest t t' : ℕ) : Type 0 where
  pub long : length s' ≡ length s
  pub tail : drop (P.base + 3 * P.cap) s' ≡ drop (P.base + 3 * P.cap) s
  pub more : t ≤ t'
  pub cur : (j : ℕ) → j < rest → entry_at s' (slot (not side) P.base P.cap j) ≡ entry_at s (slot (not side) P.base P.cap j)
  pub old : (j : ℕ) → j < t → entry_at s' (slot side P.base P.cap j) ≡ entry_at s (slot side P.base P.cap j)
  pub new : (j : ℕ) → t ≤ j → j < t' → From (entry_at s' (slot side P.base P.cap j))
  pub keeps : (q : ℕ) → q < P.places → bit_of s q ≡ 1 → bit_of s' q ≡ 1
  pub listed : (q : ℕ) → q < P.places → bit_of s' q ≡ 1 → (bit_of s q ≡ 1) ⊎ ((j : ℕ) × (j < t') × (entry_at s' (slot side P.base P.cap j) ≡ q))
  pub led : (q : ℕ) → From q → bit_of s' q ≡ 1
  pub all : tally s' P.places + t ≡ tally s P.places + t'
  pub twos_more : tally s P.twos ≤ tally s' P.twos

-- one place visited
pub record Visited {F : Type 0} (P : Plan F) (q : ℕ) (s s' : List ℕ) (side : Bool) (rest t t' : ℕ) : Type 0 where
  pub grown : Grown P (λ x. x ≡ q) s s' side rest t t'
  pub one : t' ≤ t + 1
  pub twos : q < P.twos → t' + tally s P.twos ≡ t + tally s' P.twos

-- place p can be gone on from, while `rest` places of the level are left behind it
pub record Ready {F : Type 0} (P : Plan F) (s : List ℕ) (rest t p : ℕ) : Type 0 where
  pub place : p < P.places
  pub long : P.base + 3 * P.cap ≤ length s
  pub room : 2 * (rest + 1 + t) ≤ 2 + tally s P.twos

-- a place gone on from: it has no fault, and the store grew by what it leads to
pub record Opened {F : Type 0} (P : Plan F) (p : ℕ) (s s' : List ℕ) (side : Bool) (rest t t' : ℕ) : Type 0 where
  pub sound : (f : F) → P.step p ≡ Step.faulty f → ⊥
  pub grown : Grown P (Leads (P.step p)) s s' side rest t t'
  pub room : 2 * t' + tally s P.twos ≤ 2 * t + 2 + tally s' P.twos

-- a place gone on from, or its fault
abbrev pub Expands : {F : Type 0} → Plan F → ℕ → List ℕ → List ℕ → Bool → ℕ → ℕ → Result ℕ F → Type 0
Expands P p s s' side rest t (Ok t') = Opened P p s s' side rest t t'
Expands P p s s' side rest t (Err f) = (P.step p ≡ Step.faulty f) × (s' ≡ s)

-- a place that was gone on from: it has no fault, and what it leads to is marked
abbrev pub Closed : {F : Type 0} → Plan F → List ℕ → ℕ → Type 0
Closed {F} P s p = ((f : F) → P.step p ≡ Step.faulty f → ⊥) × ((q : ℕ) → Leads (P.step p) q → bit_of s q ≡ 1)

abbrev pub Entered : {F : Type 0} → Plan F → List ℕ → Bool → ℕ → ℕ → Type 0
Entered P s side n p = (j : ℕ) × (j < n) × (entry_at s (slot side P.base P.cap j) ≡ p)

-- its fault is not below the lowest found
abbrev pub Blamed : {F : Type 0} → Plan F → ℕ → ℕ → Type 0
Blamed {F} P key p = (f : F) × (P.step p ≡ Step.faulty f) × (key ≤ key_at (P.address p) (P.number f))

-- in the midst of level k: m places of it are left, t of the next are found, key is the lowest fault met, and c places were marked at its beginning
pub record Mid {F : Type 0} (P : Plan F) (s : List ℕ) (side : Bool) (m t k key c : ℕ) : Type 0 where
  pub long : P.base + 3 * P.cap ≤ length s
  pub cur : (j : ℕ) → j < m → Reach P.step P.start k (entry_at s (slot (not side) P.base P.cap j))
  pub next : (j : ℕ) → j < t → Reach P.step P.start (suc k) (entry_at s (slot side P.base P.cap j))
  pub state : (p : ℕ) → bit_of s p ≡ 1 → p < P.places → Closed P s p ⊎ (Entered P s (not side) m p ⊎ (Blamed P key p ⊎ Entered P s side t p))
  pub sound : (p : ℕ) → bit_of s p ≡ 1 → p < P.places → Reached P.step P.start p
  pub before : (j p : ℕ) → j < k → Reach P.step P.start j p → Closed P s p
  pub here : (p : ℕ) → Reach P.step P.start k p → Closed P s p ⊎ (Entered P s (not side) m p ⊎ Blamed P key p)
  pub began : bit_of s P.start ≡ 1
  pub best : key < none → (p : ℕ) × (f : F) × Reach P.step P.start k p × (P.step p ≡ Step.faulty f) × (key ≡ key_at (P.address p) (P.number f))
  pub room : 2 * (m + t) ≤ 2 + tally s P.twos
  pub count : tally s P.places ≡ c + t

-- what a turn, or a whole level, leaves: the same level with `rest` places left, t found and the lowest fault key
pub record Next {F : Type 0} (P : Plan F) (s s' : List ℕ) (side : Bool) (rest t k key c : ℕ) : Type 0 where
  pub mid : Mid P s' side rest t k key c
  pub low : key ≤ none
  pub long : length s' ≡ length s
  pub tail : drop (P.base + 3 * P.cap) s' ≡ drop (P.base + 3 * P.cap) s

-- in the midst of some level
abbrev pub Amid : List ℕ → Setup → List ℕ → Bool → ℕ → ℕ → ℕ → Type 0
Amid image su s side m t key =
    (start : ℕ) × (k : ℕ) × (c : ℕ) × (start < places_of su.size) × (key ≤ none) × Mid (plan_of image su start) s side m t k key c
