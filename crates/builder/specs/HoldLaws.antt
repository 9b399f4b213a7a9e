-- Two stores that hold a replay: the list built and the result places so far.
use Rattle.std.specs.Prelude.{ℕ, suc, ◌+◌, ◌-◌, ◌<◌, ◌≤◌, List, [], ◌∷◌, ◌++◌, ◌≡◌, length, take, set, replicate}
use Rattle.std.proofs.Math.Path.{refl, sym, ap, ap₂}
use Rattle.std.proofs.Common.{◌∙◌, add-one, arith, get_or-take}
use Rattle.std.proofs.Math.ListN.{get_or}
use Rattle.std.proofs.Math.Seq.{take-suc-set}
use Rattle.dag.specs.Refusals.{first_refused}
use Rattle.field.specs.Fields.{Field, Low, element_laws}
use Rattle.field.specs.declared.QuadFelt.{QuadFelt}
use Rattle.dag.specs.View.{interleaved}
use Rattle.dag.specs.Nodes.{blank, nodes, at, rename, filled}
use Rattle.dag.specs.NodeLaws.{length_nodes}
use Rattle.dag.specs.Store.{Sound}
use Rattle.dag.specs.WellFormed.{Fine, WellFormed}
use Rattle.dag.specs.WellFormedLaws.{fine_mono}
use Rattle.dag.specs.declared.NodeKind.{NodeKind}
use Rattle.dag.specs.declared.NodeKind.TheVariants.{Input, Constant, Add, Sub, Mul, Neg}
use Rattle.builder.specs.Steps.{Built, Replay, place_of, recorded, step, replay}
use Rattle.builder.specs.ReplayLaws.{Replayed, replay_replayed, renamed_fine}
use Rattle.builder.specs.Promises.{Request, Pushed, read, Holds, SameStores}
use Rattle.builder.specs.declared.DagBuilder.{DagBuilder}
use Rattle.builder.specs.declared.Entered.{Entered}

-- places that agree rename a record alike
pub rename_agree : (Low : QuadFelt → Type 0) (m k : ℕ → ℕ) (i : ℕ) (x : NodeKind) → Fine Low i x → ((j : ℕ) → j < i → m j ≡ k j) → rename m x ≡ rename k x
unfolding rename Fine
rename_agree Low m k i (Input _) f h = refl
rename_agree Low m k i (Constant _) f h = refl
rename_agree Low m k i (Add a b) f h = ap₂ Add (h a f.0) (h b f.1)
rename_agree Low m k i (Sub a b) f h = ap₂ Sub (h a f.0) (h b f.1)
rename_agree Low m k i (Mul a b) f h = ap₂ Mul (h a f.0) (h b f.1)
rename_agree Low m k i (Neg a) f h = ap Neg (h a f)

module _ (field : Field) where
  -- nothing yet
  pub holds_nothing : (result map : List ℕ) → Holds field (record { list = []; map = [] }) 0 result map 0
  unfolding nodes first_refused
  holds_nothing result map = record { sound = record { room = omega arith; good = refl }; list_is = refl; map_is = refl }

  module _ (r : Replay) (i : ℕ) (result map : List ℕ) (count : ℕ) (h : Holds field r i result map count) where
    pub count_is : count ≡ length r.list
    count_is = sym (length_nodes (interleaved result) count) ∙ ap length h.list_is

    pub place_read : (j : ℕ) → j < i → read map j ≡ place_of r j
    unfolding place_of
    place_read j k = sym (get_or-take i map j 0 k) ∙ ap (λ l. get_or l j 0) h.map_is

    -- a request on earlier results is a request on the store
    pub renamed_request : Replayed (Low field) i r → (x : NodeKind) → Fine (Low field) i x → Request field (interleaved result) count (rename (read map) x)
    renamed_request d x f =
        record {
          sound = h.sound;
          fine = rw (rename_agree (Low field) (read map) (place_of r) i x f place_read, count_is) (renamed_fine field.elements (element_laws field) i r d x f);
        }

    -- one more result
    pub holds_more : (b : Built) (after : List ℕ) (place k : ℕ) → Sound field.bounds (interleaved after) k → nodes (interleaved after) k ≡ b.list → place ≡ b.place → i < length map
        → Holds field (recorded r b) (suc i) after (set map i place) k
    unfolding recorded
    holds_more b after place k s l e f =
        record {
          sound = s;
          list_is = l;
          map_is = take-suc-set map i place f ∙ ap₂ (λ m q. m ++ (q ∷ [])) h.map_is e;
        }

  -- the record at place i of a list may stand at any later place
  pub turn_fine : (l : List NodeKind) → WellFormed (Low field) l → (i n : ℕ) (x : NodeKind) → i ≤ n → x ≡ at l i → Fine (Low field) n x
  unfolding WellFormed
  turn_fine l w i n x h e = rw e (fine_mono (Low field) i n (at l i) h (w i))

  -- Build's turn: the record at place i of l, renamed and entered
  module _ (l : List NodeKind) (w : WellFormed (Low field) l) {i : ℕ} {result map : List ℕ} {count : ℕ} (h : Holds field (replay field.elements l i) i result map count) where
    pub turn_request : {x : NodeKind} → x ≡ at l i → Request field (interleaved result) count (rename (read map) x)
    unfolding WellFormed
    turn_request e = rw e (renamed_request (replay field.elements l i) i result map count h (replay_replayed field.elements (element_laws field) l w i) (at l i) (w i))

    pub turn_short : count ≤ i
    turn_short = let a = count_is (replay field.elements l i) i result map count h in let b = Rattle.builder.specs.ReplayLaws.replay_short field.elements (element_laws field) l w i in omega arith

    pub turn_holds : {x : NodeKind} {after : List ℕ} {e : Entered} → x ≡ at l i → Pushed field result count (rename (read map) x) after e → i < length map
        → Holds field (replay field.elements l (i + 1)) (i + 1) after (set map i e.place) e.count
    unfolding replay WellFormed
    turn_holds {x} {after} {e} ex push f =
        let r = replay field.elements l i in
        let same = ap (rename (read map)) ex ∙ rename_agree (Low field) (read map) (place_of r) i (at l i) (w i) (place_read r i result map count h) in
        let b : step field.elements (nodes (interleaved result) count) (rename (read map) x) ≡ step field.elements r.list (rename (place_of r) (at l i)) = ap₂ (step field.elements) h.list_is same in
        rw (add-one i)
        (holds_more r i result map count h (step field.elements r.list (rename (place_of r) (at l i))) after e.place e.count push.sound
        (push.list_is ∙ ap (λ q. q.list) b) (push.place_is ∙ ap (λ q. q.place) b) f)

-- places, and blanks behind them
pub filled_map : (map : List ℕ) (i words : ℕ) (places : List ℕ) → take i map ≡ places → length places ≡ i → length map ≡ words → take i map ++ replicate (length map - i) blank ≡ filled words places
unfolding filled
filled_map map i words places e k f = rw (e, ← f, k)

-- a list that is built, over its first stores still
pub same_stores : (b : DagBuilder) → SameStores b b
same_stores b = record { prime = refl; list = refl; index = refl; links = refl; list_words = refl; link_words = refl }

pub same_still : (a b c : DagBuilder) → SameStores a b → SameStores b c → SameStores a c
same_still a b c s t =
    record {
      prime = t.prime ∙ s.prime;
      list = t.list ∙ s.list;
      index = t.index ∙ s.index;
      links = t.links ∙ s.links;
      list_words = t.list_words ∙ s.list_words;
      link_words = t.link_words ∙ s.link_words;
    }
