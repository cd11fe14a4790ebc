-- A target has a stream for each connection that is known: what keeps that.
use Rattle.std.proofs.Common.{◌≡◌, ℕ, ◌<◌, Bool, true, false, List, length, map, replicate, Option, Some, None, refl, sym, ap, ◌∙◌, arith}
use Rattle.std.specs.Prelude.{if◌then◌else◌, ◌==◌, is_none, position}
use Rattle.std.specs.Option.{option_map}
use Rattle.std.proofs.lemmas.Bool.{eqb-true}
use Rattle.tables.specs.NumberTable.{place, with_value, without}
use Rattle.tables.proofs.NumberTables.{least_free-Some, length-with_value, length-without, place_within, place-map, place-replicate, place-with_value, place-without}
use Rattle.std.proofs.lemmas.List.{length-map}
use Rattle.target_core.specs.Connection.{KnownConnection}
use Rattle.target_decision.specs.World.{connections_max}
use Rattle.target_core.specs.Target.{IsTarget}

abbrev Streams : Type 0
Streams = List (Option (List ℕ))

abbrev Connections : Type 0
Connections = List (Option KnownConnection)

-- the fact of the tables alone
abbrev pub Alike : {A B : Type 0} → List (Option A) → List (Option B) → Type 0
Alike streams connections = (k : ℕ) → is_none (place streams k) ≡ is_none (place connections k)

pub new_is_target : (streams : Streams) (connections : Connections) → streams ≡ replicate connections_max None
    → connections ≡ replicate connections_max None → IsTarget streams connections
new_is_target streams connections no_stream no_connection = record {
  places = rw no_connection refl;
  alike = λ k. ap (λ (l : Streams). is_none (place l k)) no_stream ∙ ap is_none (place-replicate connections_max k)
      ∙ sym (ap (λ (l : Connections). is_none (place l k)) no_connection ∙ ap is_none (place-replicate connections_max k));
  within = rw no_stream refl;
}

none_alike : {A : Type 0} (o : Option A) → is_none o ≡ true → o ≡ None
none_alike None h = refl
none_alike (Some held) h = cc

-- the least number that is free for a connection is free for its stream
pub stream_free : (streams : Streams) (connections : Connections) (k : ℕ) → IsTarget streams connections → position is_none connections ≡ Some k
    → (place streams k ≡ None) × (k < length streams)
stream_free streams connections k is free =
    let empty = least_free-Some connections k free in
    (none_alike (place streams k) (is.alike k ∙ ap is_none empty.0), omega (arith, is.within, is.places, empty.1))

-- ---- what keeps it

put_alike : {A B : Type 0} (streams : List (Option A)) (connections : List (Option B)) (k : ℕ) (a : A) (b : B) → k < length streams
    → k < length connections → Alike streams connections → Alike (with_value streams k a) (with_value connections k b)
put_alike streams connections k a b within_streams within alike j =
    ap is_none (place-with_value streams k a j within_streams) ∙ here (j == k) ∙ sym (ap is_none (place-with_value connections k b j within))
  where
    here : (same : Bool) → is_none (if same then Some a else place streams j) ≡ is_none (if same then Some b else place connections j)
    here true = refl
    here false = alike j

pub open_is_target : (streams : Streams) (connections : Connections) (k : ℕ) (held : List ℕ) (c : KnownConnection) → IsTarget streams connections
    → position is_none connections ≡ Some k → IsTarget (with_value streams k held) (with_value connections k c)
open_is_target streams connections k held c is free =
    let empty = least_free-Some connections k free in
    record {
      places = length-with_value connections k c ∙ is.places;
      alike = put_alike streams connections k held c (stream_free streams connections k is free).1 empty.1 is.alike;
      within = length-with_value streams k held ∙ is.within;
    }

pub end_is_target : (streams : Streams) (connections : Connections) (k : ℕ) → IsTarget streams connections
    → IsTarget (without streams k) (without connections k)
end_is_target streams connections k is = record {
  places = length-without connections k ∙ is.places;
  alike = λ j. ap is_none (place-without streams k j) ∙ here j (j == k) ∙ sym (ap is_none (place-without connections k j));
  within = length-without streams k ∙ is.within;
}
  where
    here : (j : ℕ) (same : Bool) → is_none (if same then None else place streams j) ≡ is_none (if same then None else place connections j)
    here j true = refl
    here j false = is.alike j

value_alike : {A : Type 0} (l : List (Option A)) (k j : ℕ) (a b : A) → place l k ≡ Some b → is_none (place (with_value l k a) j) ≡ is_none (place l j)
value_alike l k j a b known =
    ap is_none (place-with_value l k a j (place_within l k b known)) ∙ here (j == k) refl
  where
    here : (same : Bool) → (j == k) ≡ same → is_none (if same then Some a else place l j) ≡ is_none (place l j)
    here true is = sym (ap is_none (ap (place l) (eqb-true j k is) ∙ known))
    here false is = refl

-- a stream that is known changes
pub stream_is_target : (streams : Streams) (connections : Connections) (k : ℕ) (held after : List ℕ) → IsTarget streams connections
    → place streams k ≡ Some held → IsTarget (with_value streams k after) connections
stream_is_target streams connections k held after is known = record {
  places = is.places;
  alike = λ j. value_alike streams k j after held known ∙ is.alike j;
  within = length-with_value streams k after ∙ is.within;
}

-- a connection that is known changes
pub connection_is_target : (streams : Streams) (connections : Connections) (k : ℕ) (c after : KnownConnection) → IsTarget streams connections
    → place connections k ≡ Some c → IsTarget streams (with_value connections k after)
connection_is_target streams connections k c after is known = record {
  places = length-with_value connections k after ∙ is.places;
  alike = λ j. is.alike j ∙ sym (value_alike connections k j after c known);
  within = is.within;
}

mapped_none : {A : Type 0} (f : A → A) (o : Option A) → is_none (option_map f o) ≡ is_none o
mapped_none f None = refl
mapped_none f (Some a) = refl

-- all connections change
pub map_is_target : (streams : Streams) (connections : Connections) (f : KnownConnection → KnownConnection) → IsTarget streams connections
    → IsTarget streams (map (option_map f) connections)
map_is_target streams connections f is = record {
  places = length-map connections (option_map f) ∙ is.places;
  alike = λ k. is.alike k ∙ sym (ap is_none (place-map f connections k) ∙ mapped_none f (place connections k));
  within = is.within;
}
