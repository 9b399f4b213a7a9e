-- One request.
use Rattle.std.specs.Prelude.{ℕ, ◌+◌, ◌<◌, ◌≤◌, List, ◌≡◌, Ok, Err}
use Rattle.std.proofs.Math.Path.{refl, ap}
use Rattle.std.proofs.Common.{sym, ◌∙◌, arith}
use Rattle.std.proofs.Math.ListN.{length}
use Rattle.field.specs.Fields.{field_of, Low}
use Rattle.field.specs.Field.{Below}
use Rattle.field.specs.declared.Prime.{Prime}
use Rattle.dag.specs.View.{interleaved}
use Rattle.dag.specs.ViewLaws.{same_room}
use Rattle.dag.specs.Keys.{is_key, ZK}
use Rattle.dag.specs.Nodes.{most_records, nodes}
use Rattle.dag.specs.NodeLaws.{length_nodes, length_snoc}
use Rattle.dag.specs.Store.{Sound, put}
use Rattle.dag.specs.WellFormed.{Fine}
use Rattle.dag.specs.declared.NodeKind.{NodeKind}
use Rattle.dag.specs.declared.NodeKind.TheVariants.{Input}
use Rattle.dag.specs.declared.Refusal.TheVariants.{NoRoom}
use Rattle.index.specs.Index.{half, noted, node_bucket, NodeIndex}
use Rattle.index.specs.Promises.{SameLinks}
use Rattle.index.specs.declared.PlaceIndex.{PlaceIndex}
use Rattle.builder.specs.Promises.{Request, resolved, appended, Pushed, Noted}
use Rattle.builder.specs.RequestLaws.{step_appended, pushed_place, noted_node}
use Rattle.builder.specs.declared.Outcome.{Outcome}
use Rattle.builder.specs.declared.Outcome.TheVariants.{Place, Node}
use Rattle.periodic.specs.Builder.{enter}
use Rattle.periodic.specs.Runs.{held, builder_of, stores_of, Entered, Entering}
use Rattle.periodic.specs.declared.PeriodicBuilder.{PeriodicBuilder}

module _ (b : PeriodicBuilder) (x : NodeKind) (fine : Fine (Low (field_of b.prime)) b.count x) where
  pub asked : Request (field_of b.prime) (interleaved b.list.now) b.count x
  asked = record { sound = b.sound; fine = fine }

  pushed : (after : List ℕ) (k i : ℕ) → Pushed (field_of b.prime) b.list.now b.count x after (record { place = i; count = k })
      → Entered (held b) (λ field. enter field.elements x) (record { prime = b.prime; list = nodes (interleaved after) k; count = k; stores = stores_of (builder_of b) }) i
  unfolding enter
  pushed after k i d = record { ran = record { prime_is = refl; stores_are = refl; longer = d.longer; list_is = d.list_is; answer_is = d.place_is }; inside = d.inside }

  module _ (o : Outcome) (e : o ≡ resolved (field_of b.prime) (nodes (interleaved b.list.now) b.count) b.count x) where
    pub enter_place : (i : ℕ) → o ≡ Place i → Entering (held b) (λ field. enter field.elements x) (held b) (Ok i)
    enter_place i q = record { told = pushed b.list.now b.count i (pushed_place (field_of b.prime) b.list.now b.count x asked o i e q) }

    module _ (y : NodeKind) (q : o ≡ Node y) where
      pub enter_long : b.count ≡ most_records → Entering (held b) (λ field. enter field.elements x) (held b) (Err NoRoom)
      unfolding enter
      enter_long h =
          let l = nodes (interleaved b.list.now) b.count in
          let k = step_appended (field_of b.prime) (interleaved b.list.now) b.count x ∙ ap (appended l) (sym e ∙ q) in
          record { told = record { reason = refl; prime_is = refl; stores_are = refl; longer = omega arith; long = omega (arith, ap (λ r. length r.list) k, length_snoc l y, length_nodes (interleaved b.list.now) b.count) } }

      -- a new record, appended and noted
      module _ (few : b.count < most_records) (after : List ℕ) (index : PlaceIndex) (same : SameLinks b.index.now index) (list_is : after ≡ put b.list.now b.count y)
          (links_are : index.links.now ≡ noted b.index.now.links.now b.count (node_bucket (half b.index.now.links.now) y)) where
        told : Noted (field_of b.prime) b.list.now b.count x after index.links.now (record { place = b.count; count = b.count + 1 })
        told =
            noted_node (field_of b.prime) b.list.now b.count x asked o y after b.index.now.links.now index.links.now e q list_is
            (record { room = omega (arith, b.list_room); index = b.indexed; link_room = omega (arith, b.link_room) })
            links_are

        pub enter_node : Entering (held b) (λ field. enter field.elements x)
            (record {
              prime = b.prime;
              list = nodes (interleaved after) (b.count + 1);
              count = b.count + 1;
              stores = record { list = b.list.ghost_name; index = b.index.ghost_name; links = index.links.ghost_name; list_words = length after; link_words = length index.links.now };
            })
            (Ok b.count)
        enter_node = rw (same.reference, same.words, told.pushed.kept) (record { told = pushed after (b.count + 1) b.count told.pushed })

        pub node_sound : Sound (field_of b.prime).bounds (interleaved after) (b.count + 1)
        node_sound = told.pushed.sound

        pub node_indexed : NodeIndex (nodes (interleaved after) (b.count + 1)) index.links.now
        node_indexed = told.index

        pub node_list_room : most_records ≤ (interleaved after).room
        node_list_room = rw (same_room after b.list.now told.pushed.kept) b.list_room

        pub node_link_room : most_records ≤ half index.links.now
        node_link_room = rw same.words b.link_room

-- ZK is a key
pub zk_fine : (prime : Prime) (n : ℕ) → Fine (Below prime) n (Input ZK)
unfolding Fine is_key
zk_fine prime n = refl
