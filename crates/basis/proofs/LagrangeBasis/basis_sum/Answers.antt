use Rattle.std.proofs.Common.{rules, true, false, get_or, ◌∙◌, ap, le_trans}
use Rattle.field.specs.Fields.{field_of}
use Rattle.periodic.specs.Builder as Builder
use Rattle.periodic.specs.Periodic as Periodic
use Rattle.periodic.specs.SameLaws.{same_is}
use Rattle.periodic.specs.Runs.{held, Entering}
use Rattle.periodic.specs.RunLaws.{long_first, then_long, then_enter, ran_like, long_like, below_later, refused}
use Rattle.basis.specs.Within.{Within}
use Rattle.basis.specs.BasisLaws.{within_later, class_of, at_prime, terms_entered, kept}
use Rattle.basis.proofs.LagrangeBasis.basis_sum.Goals as goal

pub constant-requires : goal.constant-requires
constant-requires c = below_later c.requires.same c.offset-d.ensures.1

pub returns-in_err-start : goal.returns-in_err-start
unfolding Periodic.basis_sum
returns-in_err-start c =
    let basis = c.args.self.now in
    let field = field_of basis.col.prime in
    refused _ _ c.from_residual.ensures (long_first _ (long_like c.requires.same (same_is (ap (Builder.constant field.elements) c.offset-d.ensures.0)) c.in_err-start.ensures.told))

pub all_terms-requires : goal.all_terms-requires
all_terms-requires c =
    let basis = c.args.self.now in
    let field = field_of basis.col.prime in
    let within : Within basis (held c.constant.new.self) = within_later c.in_ok-start.ensures.told.ran.prime_is c.in_ok-start.ensures.told.ran.longer c.requires in
    record {
      inside = c.in_ok-start.ensures.told.inside;
      callable = λ b k s h i j.
          let asked : Within basis (held b.now) = within_later h.prime_is h.longer within in
          let class = class_of field basis.col.entries.now _ _ k basis.col.tested.low (c.deref-2.ensures.0 ∙ c.values-values.ensures.value) c.offset-d.ensures.0 c.offset-d.ensures.1 i in
          search rules;
      kept = λ b k s r a h i p.
          let q : Entering (held b.now) (λ field. Periodic.term_turn field basis.col.entries.now false basis.prefix.now basis.suffix.now (get_or c.deref-2.result.now k 0) s) (held a.now) r = search rules in
          kept _ _ _ _ q;
    }

pub returns-in_err-sum : goal.returns-in_err-sum
unfolding Periodic.basis_sum
returns-in_err-sum c =
    let basis = c.args.self.now in
    let field = field_of basis.col.prime in
    let e = c.in_ok-start.ensures.told.ran.prime_is ∙ c.requires.same in
    let sum = terms_entered basis.col.entries.now _ _ false _ _ e (c.deref-2.ensures.0 ∙ c.values-values.ensures.value)
    (c.in_err-sum.ensures (λ v s. Periodic.term_turn field basis.col.entries.now false basis.prefix.now basis.suffix.now v s)
    (λ b k s r a h i p.
    let q : Entering (held b.now) (λ field. Periodic.term_turn field basis.col.entries.now false basis.prefix.now basis.suffix.now (get_or c.deref-2.result.now k 0) s) (held a.now) r = search rules in
    at_prime (h.prime_is ∙ e) q)) in
    refused _ _ c.from_residual-in_err-sum.ensures
    (then_long _ (ran_like c.requires.same (same_is (ap (Builder.constant field.elements) c.offset-d.ensures.0)) c.in_ok-start.ensures.told.ran) (long_first _ sum.told))

pub all_terms-requires-2 : goal.all_terms-requires-2
all_terms-requires-2 c =
    let basis = c.args.self.now in
    let field = field_of basis.col.prime in
    let e = c.in_ok-start.ensures.told.ran.prime_is ∙ c.requires.same in
    let sum = (terms_entered basis.col.entries.now _ _ false _ _ e (c.deref-2.ensures.0 ∙ c.values-values.ensures.value)
    (c.in_ok-sum.ensures (λ v s. Periodic.term_turn field basis.col.entries.now false basis.prefix.now basis.suffix.now v s)
    (λ b k s r a h i p.
    let q : Entering (held b.now) (λ field. Periodic.term_turn field basis.col.entries.now false basis.prefix.now basis.suffix.now (get_or c.deref-2.result.now k 0) s) (held a.now) r = search rules in
    at_prime (h.prime_is ∙ e) q))).told in
    let within : Within basis (held c.all_terms.new.builder) = within_later (sum.ran.prime_is ∙ c.in_ok-start.ensures.told.ran.prime_is) (le_trans c.in_ok-start.ensures.told.ran.longer sum.ran.longer) c.requires in
    record {
      inside = sum.inside;
      callable = λ b k s h i j.
          let asked : Within basis (held b.now) = within_later h.prime_is h.longer within in
          let class = class_of field basis.col.entries.now _ _ k basis.col.tested.low (c.deref-3.ensures.0 ∙ c.values-values.ensures.value) c.offset-d.ensures.0 c.offset-d.ensures.1 i in
          search rules;
      kept = λ b k s r a h i p.
          let q : Entering (held b.now) (λ field. Periodic.term_turn field basis.col.entries.now true basis.prefix.now basis.suffix.now (get_or c.deref-3.result.now k 0) s) (held a.now) r = search rules in
          kept _ _ _ _ q;
    }

pub returns : goal.returns
unfolding Periodic.basis_sum
returns c =
    let basis = c.args.self.now in
    let field = field_of basis.col.prime in
    let e = c.in_ok-start.ensures.told.ran.prime_is ∙ c.requires.same in
    let sum = (terms_entered basis.col.entries.now _ _ false _ _ e (c.deref-2.ensures.0 ∙ c.values-values.ensures.value)
    (c.in_ok-sum.ensures (λ v s. Periodic.term_turn field basis.col.entries.now false basis.prefix.now basis.suffix.now v s)
    (λ b k s r a h i p.
    let q : Entering (held b.now) (λ field. Periodic.term_turn field basis.col.entries.now false basis.prefix.now basis.suffix.now (get_or c.deref-2.result.now k 0) s) (held a.now) r = search rules in
    at_prime (h.prime_is ∙ e) q))).told in
    let f = sum.ran.prime_is ∙ e in
    let end = terms_entered basis.col.entries.now _ _ true _ _ f (c.deref-3.ensures.0 ∙ c.values-values.ensures.value)
    (c.all_terms-2.ensures (λ v s. Periodic.term_turn field basis.col.entries.now true basis.prefix.now basis.suffix.now v s)
    (λ b k s r a h i p.
    let q : Entering (held b.now) (λ field. Periodic.term_turn field basis.col.entries.now true basis.prefix.now basis.suffix.now (get_or c.deref-3.result.now k 0) s) (held a.now) r = search rules in
    at_prime (h.prime_is ∙ f) q)) in
    then_enter _ (ran_like c.requires.same (same_is (ap (Builder.constant field.elements) c.offset-d.ensures.0)) c.in_ok-start.ensures.told.ran) (then_enter _ sum.ran end)
