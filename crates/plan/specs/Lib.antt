pub mod Plan
pub mod Promises
pub mod FanoutLaws
pub mod FactorLaws
pub mod SearchLaws
pub mod PlanLaws
pub mod PlanValueLaws
pub mod Held
