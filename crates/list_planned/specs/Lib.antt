pub mod PlanOk
