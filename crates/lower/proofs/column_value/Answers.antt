use Rattle.periodic.specs.RunLaws.{enter_as}
use Rattle.lower.specs.FormLaws.{value_sparse, value_dense, value_basis}
use Rattle.lower.proofs.column_value.Goals as goal

pub returns-in-Sparse : goal.returns-in-Sparse
returns-in-Sparse c = enter_as (value_sparse _ _ _ c.in-Sparse.is) c.sparse_value.ensures

pub returns-in-Dense : goal.returns-in-Dense
returns-in-Dense c = enter_as (value_dense _ _ _ c.in-Dense.is) c.dense_value.ensures

pub returns-in-Basis : goal.returns-in-Basis
returns-in-Basis c = enter_as (value_basis _ _ _ c.in-Basis.is) c.basis_value.ensures
